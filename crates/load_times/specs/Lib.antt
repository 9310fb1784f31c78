pub mod Filling
pub mod laws
