-- The laws of a path: its loops and images, how many rays it takes, what its candidate has of numbers, and that its energy is finite.
pub mod Laws
pub mod Bound
pub mod Numbers
pub mod Finite
pub mod Speed
mod Floats
mod Ranges
mod Signs
mod Levels
mod Bands
mod Most
mod Caps
mod Far
