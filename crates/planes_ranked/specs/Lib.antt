-- The ranked planes of a scene: the areas that their contracts speak of.
pub mod Areas
