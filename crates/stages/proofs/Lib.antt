-- The laws that the proofs of `stages` cite.
mod Loaded
mod Courses
mod Three
pub mod Passing
