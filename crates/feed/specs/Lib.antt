-- Definitions that the contracts on feeds cite.
pub mod Lists
pub mod Entries
pub mod Records
pub mod RecordFeeds
pub mod Patterns
pub mod Layers
pub mod Heights
pub mod Turned
