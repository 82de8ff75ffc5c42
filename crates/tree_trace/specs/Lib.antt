-- The definitions that the contracts of `tree_trace` cite: the triangles of a leaf, the test of a box, the tree's recursion, and the Rust's stack.
pub mod Leaf
pub mod Slopes
pub mod Trace
pub mod Stack
