-- Lemmas on feeds.
pub mod Reading
mod Running
mod Standing
pub mod Onto
