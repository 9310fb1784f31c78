pub mod Ranges
pub mod Ends
pub mod Links
