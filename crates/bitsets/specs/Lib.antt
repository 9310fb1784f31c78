pub mod Set
pub mod Laws
pub mod Packed
pub mod Walk
