-- The laws of the query.
pub mod Zero
pub mod Call
pub mod Prefix
pub mod Foreseeing
