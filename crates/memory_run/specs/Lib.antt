pub mod Run
pub mod Row
pub mod Memory
pub mod laws
