pub mod Turns
pub mod Steps
pub mod Invariant
pub mod Fit
pub mod Counts
