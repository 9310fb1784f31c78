pub mod Numbers
pub mod Sets
pub mod Ranges
pub mod Judged
