-- What a query will cost: the definitions that the contract of `query_cost` cites, in the order in which to read them.
pub mod Cost
pub mod Forecast
