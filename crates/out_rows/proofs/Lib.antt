pub mod Parts
pub mod Eights
