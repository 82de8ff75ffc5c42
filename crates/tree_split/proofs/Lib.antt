-- The laws of the definitions of `tree_split`, which the proofs of its functions and of `tree_build` cite.
pub mod Laws
