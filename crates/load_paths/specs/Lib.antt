pub mod Keep
pub mod laws
