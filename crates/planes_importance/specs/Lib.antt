-- Step 5 of `build_planes`: the importance of planes, and their ranking by it.
pub mod Importance
