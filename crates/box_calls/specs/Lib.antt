pub mod Box
pub mod Calls
pub mod Owned
pub mod laws
