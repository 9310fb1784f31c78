pub mod Taking
pub mod Routes
pub mod Heads
pub mod Stands
