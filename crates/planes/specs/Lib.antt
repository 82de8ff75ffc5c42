-- The mirror planes of a scene: `build_planes` of cpu_simd.rs. `Build` is the root of the whole definition.
pub mod Build
pub mod Areas
