-- Laws of the program.
pub mod Takes
pub mod Rounds
