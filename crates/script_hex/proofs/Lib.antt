-- Laws of bytes in hex.
pub mod Values
pub mod Pairs
pub mod Text
