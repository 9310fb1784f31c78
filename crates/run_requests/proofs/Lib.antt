-- The lemmas that several of the proofs here need.
pub mod Strangers
