pub mod Laws
pub mod Sweep
