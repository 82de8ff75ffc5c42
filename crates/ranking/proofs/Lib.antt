-- The laws of the ranking that other crates cite, and what its loops hold.
pub mod Members
pub mod Infinities
pub mod Keys
pub mod Choose
pub mod Laws
pub mod Only
pub mod Rowing
mod Keeping
mod Filling
mod Ranking
mod Examples
