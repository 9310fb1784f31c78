pub mod Kind
pub mod Script
pub mod Samples
pub mod laws
