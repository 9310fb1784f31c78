pub mod Bytes
pub mod laws
