-- The definitions that the contracts of `scene` cite.
pub mod Limits
pub mod Speed
pub mod Scene
pub mod Areas
pub mod Refusals
