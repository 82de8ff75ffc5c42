-- The laws of trees in areas, which the proofs of `tree_build` and of the crates above it cite.
pub mod Stores
pub mod Frame
pub mod Grows
