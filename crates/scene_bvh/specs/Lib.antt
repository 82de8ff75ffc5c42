-- The definitions that the contract of `scene_bvh` cites.
pub mod SceneTree
