-- What is left of a sound along a segment, and the traces made for it.
pub mod Materials
pub mod Segment
pub mod Areas
