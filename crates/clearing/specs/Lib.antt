-- Clearing: the definitions that its contracts cite.
pub mod Zero
pub mod Runs
