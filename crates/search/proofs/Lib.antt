-- The laws of the search: one visit, the runs over the sequences, its end, and what a query asks of it.
pub mod Laws
pub mod Walks
pub mod Ends
pub mod Answers
pub mod Points
