-- The law on products that the proofs of `guesses`, and of the crates above it, cite.
pub mod Products
