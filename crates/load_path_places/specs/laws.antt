pub mod OwnRow
pub mod PathPlace
pub mod PathOf
pub mod Room
