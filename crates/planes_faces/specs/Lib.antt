-- The definitions that the contracts of `planes_faces` cite.
pub mod Whole
pub mod Key
pub mod Triples
pub mod Faces
pub mod Numbers
