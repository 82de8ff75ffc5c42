-- The laws of the taps: what is stored of them, that the writer takes them, the call's steps together, that the search finds such taps, and a packet by computing.
pub mod Storing
pub mod Sending
pub mod Ending
pub mod Found
mod Examples
