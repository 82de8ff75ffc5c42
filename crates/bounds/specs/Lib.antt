-- What it means that a float is bounded.
pub mod Bounds
