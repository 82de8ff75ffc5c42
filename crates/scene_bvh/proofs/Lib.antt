-- The laws on a loaded scene: its triangles, handles and tree, and what those who read the areas ask.
pub mod Handles
pub mod Kept
pub mod Scenes
pub mod Asked
mod Rooms
