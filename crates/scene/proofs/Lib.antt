-- The laws on headers, areas and the answer of `check` that the proofs of `scene`, and of the crates above it, cite.
pub mod Cuts
pub mod Bound
pub mod Rooms
pub mod Answers
mod Speed
