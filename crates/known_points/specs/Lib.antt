-- The known points of document 01: the call of case A, and the table.
pub mod CaseA
pub mod KnownPoints
