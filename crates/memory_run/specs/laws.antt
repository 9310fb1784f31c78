pub mod RunRows
pub mod RunSides
pub mod Found
pub mod Refused
pub mod Sweeps
pub mod Words
pub mod RowWords
