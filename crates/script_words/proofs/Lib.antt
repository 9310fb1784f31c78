-- Laws of words and numbers.
pub mod Split
pub mod Digits
pub mod Several
pub mod Rows
