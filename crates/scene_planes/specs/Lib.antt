-- The tree and the planes of a loaded scene: the definitions that the contracts cite.
pub mod ScenePlanes
