pub mod laws
pub mod Head
