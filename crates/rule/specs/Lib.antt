-- Definitions that the contracts cite, each file after those that it rests on.
pub mod Intervals
pub mod Components
pub mod Refusals
pub mod Limits
pub mod Records
pub mod Reading
