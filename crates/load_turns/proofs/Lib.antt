pub mod Targets
pub mod Span
