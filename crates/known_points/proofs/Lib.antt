-- Case A, stage by stage, and the table.
pub mod Scene
pub mod Tree
pub mod Planes
pub mod Path
pub mod Search
pub mod Whole
pub mod Points
