-- The definitions that contracts of refusals cite.
pub mod Numbers
