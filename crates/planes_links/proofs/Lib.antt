-- What the loops of `planes_links` rest on, and the laws of rising lists that other crates cite.
pub mod Rising
pub mod Filters
pub mod Compacting
mod Cutting
pub mod Pushing
pub mod Linking
