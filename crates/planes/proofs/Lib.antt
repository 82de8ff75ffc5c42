-- The laws of the planes.
pub mod Steps
mod Rooms
