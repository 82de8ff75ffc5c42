-- The laws that the proofs of `exports` cite.
mod Lengths
mod Answers
