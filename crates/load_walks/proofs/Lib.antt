pub mod Unlike
pub mod Walks
