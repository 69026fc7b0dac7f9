-- Lemmas of the crate, each file after those that it rests on.
pub mod Readings
pub mod Counts
pub mod Numbering
