-- What is claimed of the guesses: their sizes.
pub mod Sizes
