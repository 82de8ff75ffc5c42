-- The definitions that the contracts and laws of `listing` cite.
pub mod Request
pub mod Text
pub mod Printed
