pub mod Load
pub mod laws
