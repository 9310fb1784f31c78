pub mod Refused
pub mod Asked
