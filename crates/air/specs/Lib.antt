-- The definitions that the contracts of `air` cite.
pub mod Table
pub mod Air
pub mod Kept
