-- The laws of step 2 that later steps cite.
pub mod Lists
pub mod Newest
pub mod Buckets
pub mod Stores
pub mod Around
pub mod Turns
pub mod Filling
