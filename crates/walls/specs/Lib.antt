-- The planes of a scene and the walls of an image: the definitions that the contracts cite.
pub mod Walls
pub mod Numbered
