pub mod Ranges
pub mod Devices
