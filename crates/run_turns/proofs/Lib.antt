pub mod Words
pub mod Ages
pub mod Starts
