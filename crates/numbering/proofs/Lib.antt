-- The laws of `sequence_of`, for other crates too, and what the proofs of its functions use.
pub mod Unranked
pub mod Laws
pub mod Walking
pub mod Answering
pub mod Points
