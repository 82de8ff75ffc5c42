-- The borders of planes.
pub mod Border
pub mod Uses
