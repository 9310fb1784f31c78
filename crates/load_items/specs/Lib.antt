pub mod Several
pub mod laws
