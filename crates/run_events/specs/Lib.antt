pub mod Values
pub mod laws
