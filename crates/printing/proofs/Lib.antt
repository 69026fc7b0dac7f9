-- Lemmas on what is printed.
mod Beginning
mod Draws
mod Prints
mod Telling
