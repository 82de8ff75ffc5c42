-- The definitions that the contracts of `stages` cite: how numbers and slices stand for the port's structs and answers.
pub mod Loads
pub mod Passes
pub mod Hits
pub mod Paths
pub mod Searches
