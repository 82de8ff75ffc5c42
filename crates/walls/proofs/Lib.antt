-- The laws of the walls.
pub mod Marking
pub mod Unbuilt
pub mod Numbered
