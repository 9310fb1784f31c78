pub mod Routes
pub mod laws
