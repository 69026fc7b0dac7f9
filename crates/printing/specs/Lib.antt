-- Definitions that the contracts cite, each file after those that it rests on.
pub mod Reports
pub mod Told
