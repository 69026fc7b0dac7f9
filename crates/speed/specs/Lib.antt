-- The definitions of the benchmark's runs.
pub mod Tallies
pub mod Runs
