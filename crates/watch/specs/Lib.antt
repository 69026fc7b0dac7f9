-- Definitions that the contracts cite, each file after those that it rests on.
pub mod Treatments
pub mod States
pub mod Fittings
pub mod Calls
