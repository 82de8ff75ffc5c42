-- The definitions that the contracts and laws of `text` cite.
pub mod Numbers
pub mod Fixed
pub mod Lines
