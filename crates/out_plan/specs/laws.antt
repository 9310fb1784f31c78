pub mod Parts
pub mod Devices
pub mod Links
pub mod Paths
pub mod Entries
pub mod Written
