pub mod Lanes
pub mod laws
