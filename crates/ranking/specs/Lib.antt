-- The definitions that the contracts and the laws of `ranking` cite, in the order in which to read them. What stands in quotes is document 01's.
pub mod Lists
pub mod Candidate
pub mod Rows
pub mod Listed
