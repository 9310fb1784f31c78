pub mod Idle
pub mod Boxes
