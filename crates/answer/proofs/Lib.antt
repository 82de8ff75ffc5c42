-- The laws of the query over a scene.
pub mod Planes
pub mod Answering
pub mod Silence
