-- The definitions of kinds of truth.
pub mod Laws
pub mod Plain
pub mod Words
pub mod Tables
pub mod Replacing
pub mod Meaning
pub mod Pulled
pub mod Plainly
pub mod Digits
pub mod Same
