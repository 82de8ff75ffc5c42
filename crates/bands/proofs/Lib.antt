-- Worked examples of the definitions of `bands`.
pub mod Examples
