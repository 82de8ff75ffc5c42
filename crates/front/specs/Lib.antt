-- The front of a query: the definitions that its contracts cite. What stands in quotes is document 01's.
pub mod Asked
