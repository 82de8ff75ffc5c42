-- The laws of step 3.
pub mod Best
pub mod Closing
pub mod Opening
