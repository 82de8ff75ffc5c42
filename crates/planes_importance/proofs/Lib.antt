-- The laws that the proofs of `planes_importance` cite.
pub mod Folds
pub mod Ranks
