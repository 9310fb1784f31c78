pub mod Parts
pub mod Leaves
