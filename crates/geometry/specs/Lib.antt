-- The definitions that the contracts of `geometry` cite, in the order of cpu_simd.rs.
pub mod Aabb
pub mod Slab
pub mod Triangle
pub mod Intersect
pub mod Contains
