-- The definitions that the contracts of `tree_split` cite.
pub mod Split
