pub mod Cover
pub mod Paths
pub mod Lanes
