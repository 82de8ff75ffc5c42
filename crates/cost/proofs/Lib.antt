-- The laws behind `query_cost`, lowest first.
pub mod Sizes
pub mod Turns
pub mod Sums
pub mod Totals
pub mod Counted
pub mod Forecasts
pub mod Examples
