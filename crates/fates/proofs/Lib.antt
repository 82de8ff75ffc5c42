-- The laws of the fates.
pub mod Zeros
pub mod Bytes
pub mod Marks
