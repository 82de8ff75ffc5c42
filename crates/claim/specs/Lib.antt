-- The answer of a query, the claim that demand 3 makes of it, and the search that finds it, in the order in which to read them. What stands in
-- quotes is document 01's.
pub mod Answer
pub mod Complete
pub mod Query
