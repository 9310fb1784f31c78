pub mod Asked
pub mod KeptRow
pub mod KeptCost
