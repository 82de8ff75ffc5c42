-- The laws of the segments: the ways that a walk goes, how many traces there are for any limit, and that a distance is the same both ways.
pub mod Laws
pub mod Turned
