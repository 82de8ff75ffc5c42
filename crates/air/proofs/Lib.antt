-- The laws of `air`: the power rule, and that the code's bounds cut nothing off.
mod Every
mod Later
pub mod Rule
mod Whole
pub mod Nothing
pub mod Value
mod Halves
mod Quiet
mod Examples
