pub mod Ranges
pub mod Slots
pub mod Entries
