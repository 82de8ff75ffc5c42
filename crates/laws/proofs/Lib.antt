-- The laws of tests, lists and numbers that several crates cite.
pub mod Bools
pub mod Lists
pub mod Numbers
