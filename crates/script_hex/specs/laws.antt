pub mod Bytes
pub mod Lengths
