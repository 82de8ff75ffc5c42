-- What the Rust says, where our definitions say it otherwise; `proofs/` proves that they agree.
pub mod Keys
pub mod Falling
