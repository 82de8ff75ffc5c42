-- The definitions that the contracts of `bvh` cite.
pub mod Bvh
