-- Lemmas of the crate, each file after those that it rests on.
pub mod Kept
pub mod Values
pub mod Runs
