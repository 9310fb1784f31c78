pub mod One
pub mod Sweeps
