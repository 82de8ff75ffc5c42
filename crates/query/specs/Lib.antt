-- The query: the definitions that its contract cites, in the order in which to read them. What stands in quotes is document 01's, or document 02's where a Note is named.
pub mod Areas
pub mod Trace
pub mod Lists
pub mod Room
