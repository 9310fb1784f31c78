pub mod Paced
pub mod laws
