-- The laws: our definitions say what the Rust says.
pub mod Rounding
pub mod Falling
