-- The laws of clearing.
mod Wiping
mod MinusZero
