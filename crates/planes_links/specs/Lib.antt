-- The definitions that the contracts of `planes_links` cite, and the adjacency of step 4 of `build_planes`.
pub mod Words
pub mod Links
