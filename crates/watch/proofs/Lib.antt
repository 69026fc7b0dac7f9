-- Lemmas of the crate, each file after those that it rests on.
pub mod Lookups
pub mod Filling
pub mod Spelling
pub mod Treated
pub mod Accepted
pub mod Drawn
pub mod Promised
pub mod Calling
