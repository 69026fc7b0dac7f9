-- Lemmas on lines.
mod Decimals
