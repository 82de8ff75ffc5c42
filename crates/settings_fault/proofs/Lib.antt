-- The laws on the first failed test that the proofs of `settings_fault` cite.
pub mod First
