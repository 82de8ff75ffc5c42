-- The laws of step 1 that later steps cite.
pub mod Wholes
pub mod Triples
pub mod Firsts
pub mod Numbers
pub mod Packing
pub mod Corners
pub mod Scene
pub mod Numbering
