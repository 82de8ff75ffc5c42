-- The laws of the images and of the ways that a bounce goes.
pub mod Laws
