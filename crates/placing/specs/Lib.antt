-- The definitions that the contracts of `placing` cite.
pub mod Corners
pub mod Passing
pub mod Loading
pub mod TwoPasses
