-- The query over a scene: the definitions that the contracts cite, in the order in which to read them.
pub mod Query
pub mod Answer
pub mod Loaded
