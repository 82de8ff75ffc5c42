-- Steps 1 and 2 of `build_planes`: the coplanar patches of a scene. `Patches` has the definition, `Rows` says how patches stand
-- in areas, `Grid` how the grid of normals does.
pub mod Lists
pub mod Triangles
pub mod Normal
pub mod Patch
pub mod Patches
pub mod Rows
pub mod Grid
