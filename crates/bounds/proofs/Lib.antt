-- The laws on the size of floats.
pub mod Rounded
pub mod Operations
