-- Worked examples of the definitions of `vector`.
pub mod Examples
