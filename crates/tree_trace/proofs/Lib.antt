-- The laws of the trace: the order of floats, the second test of a box, what a trace leaves, a node, and that the Rust's stack gives the same.
pub mod Floats
pub mod Again
pub mod Slopes
pub mod Since
pub mod Laws
pub mod Stack
