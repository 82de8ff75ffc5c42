-- A mirror plane, what is worked out from it alone, and how planes stand in areas.
pub mod Plane
pub mod Mirror
pub mod Border
pub mod Locate
pub mod Rows
