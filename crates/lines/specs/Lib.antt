-- Definitions that the contracts on lines cite.
pub mod Decimals
pub mod Lines
pub mod Reports
