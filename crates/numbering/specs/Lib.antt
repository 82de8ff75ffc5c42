-- The definitions that the contracts and laws of `numbering` cite.
pub mod Walls
pub mod Unrank
pub mod Contract
pub mod Undone
