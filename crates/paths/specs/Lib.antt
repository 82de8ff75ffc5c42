-- A path by way of a sequence of planes: what lies in its way, what arrives, and which of the tests fails first.
pub mod Visibility
pub mod Gains
pub mod Path
pub mod Numbers
pub mod Areas
