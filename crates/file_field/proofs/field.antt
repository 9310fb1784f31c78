-- Laws of the field reader.
pub mod Heads
