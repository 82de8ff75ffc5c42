-- The search for paths: what a path's verdict is for the claim, and what the search's functions ask and promise.
pub mod Outcome
pub mod Contract
