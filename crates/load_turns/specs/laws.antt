pub mod Marks
pub mod Summary
