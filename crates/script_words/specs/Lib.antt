pub mod Words
pub mod Reading
pub mod Lines
pub mod laws
