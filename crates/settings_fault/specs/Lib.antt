-- The definitions that the contracts of `settings_fault` cite.
pub mod Fault
