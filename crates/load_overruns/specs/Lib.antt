pub mod Overruns
pub mod laws
