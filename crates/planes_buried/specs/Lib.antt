-- Step 3 of `build_planes`: the patches that are not buried. `Buried` has the definition, the others what the contracts cite.
pub mod Buried
pub mod Probe
pub mod Passes
