pub mod Filled
pub mod Kept
