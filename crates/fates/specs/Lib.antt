-- One byte for each visited image, and what it says. What stands in quotes is document 02's, Note 1.
pub mod Fates
