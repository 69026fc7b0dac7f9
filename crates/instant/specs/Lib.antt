-- Definitions that the contracts cite, each file after those that it rests on.
pub mod Step
pub mod Answers
pub mod Runs
