-- The theorems of the tree and its trace, and the laws that the proofs of `bvh`'s functions cite.
pub mod Leaves
pub mod Agree
pub mod Hits
mod Examples
mod Rows
mod Parts
mod Laws
pub mod Finite
