pub mod PathRows
pub mod Routes
