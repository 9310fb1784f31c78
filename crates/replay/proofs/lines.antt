-- Laws of lines in a buffer.
pub mod Scans
