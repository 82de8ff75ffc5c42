-- From candidates to a packet: the definitions that the contracts of `taps` cite, in the order in which to read them. What stands in quotes is
-- document 01's.
pub mod Tap
pub mod Sendable
pub mod Areas
