-- The laws of the claim.
pub mod Whole
pub mod Searching
