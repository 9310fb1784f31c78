pub mod Out
pub mod laws
