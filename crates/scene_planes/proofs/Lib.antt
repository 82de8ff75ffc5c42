-- The laws of the planes of a loaded scene.
pub mod Planes
