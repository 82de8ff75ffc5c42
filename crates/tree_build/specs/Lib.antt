-- The definitions that the contracts of `tree_build` cite: the tree, and the areas that it stands in.
pub mod Tree
pub mod Areas
