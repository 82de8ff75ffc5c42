-- The laws that the proofs of `planes_fit` cite.
pub mod Members
pub mod Naming
pub mod Copying
pub mod Fitting
pub mod Planes
pub mod Partition
