-- The images of a source and the bounces of a path, plane by plane.
pub mod Image
pub mod Bounces
pub mod Areas
