pub mod Ranges
pub mod Timings
