pub mod Zeros
pub mod Blanks
