-- The laws on columns and on clearing that the proofs of `columns`, and of the crates above it, cite.
pub mod Storing
pub mod Readback
