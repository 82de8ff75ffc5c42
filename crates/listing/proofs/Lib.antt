-- The laws that the proofs of several functions use, and the theorems on the text.
pub mod Reading
pub mod Writing
pub mod Answering
pub mod Accepted
pub mod Whole
