-- The laws that the proofs of `planes_borders` and later steps cite.
pub mod Ends
pub mod Keying
pub mod Counting
pub mod Once
pub mod Storing
pub mod Bordering
