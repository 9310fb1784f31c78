pub mod Marked
pub mod laws
