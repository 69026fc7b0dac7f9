-- Lemmas of the crate, each file after those that it rests on.
mod Counting
mod Refused
mod Running
