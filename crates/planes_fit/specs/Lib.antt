-- A plane for each group of patches.
pub mod Fit
pub mod Rows
