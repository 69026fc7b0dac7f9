-- The proofs on kinds of truth.
pub mod Made
pub mod Packing
pub mod Waits
pub mod Repeats
pub mod Parts
pub mod Tabled
