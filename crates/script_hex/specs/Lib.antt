pub mod Hex
pub mod laws
