pub mod Passed
pub mod GrownPath
pub mod Stored
pub mod KeptRows
pub mod KeptReach
pub mod KeptPaths
pub mod KeptPlan
pub mod Asked
