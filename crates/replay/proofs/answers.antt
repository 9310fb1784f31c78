-- Laws of answers that are gathered.
pub mod Gathered
