-- The definitions that the contracts of `arguments` cite: how lists of numbers stand for settings and points.
pub mod Model
pub mod Settings
pub mod Point
