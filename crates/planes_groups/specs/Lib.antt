-- Step 4 of `build_planes`: the groups of patches that one plane stands for. `Groups` has the definition, `Rows` says how groups stand in areas.
pub mod Settings
pub mod Groups
pub mod Rows
