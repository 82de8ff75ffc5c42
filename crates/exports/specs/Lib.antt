-- The definitions that the contracts of `exports` cite: how the numbers that a call gives stand for its answer, what the whole call and that
-- for the planes promise, and the least lengths of the areas.
pub mod Lengths
pub mod Answers
pub mod Entry
pub mod Planes
