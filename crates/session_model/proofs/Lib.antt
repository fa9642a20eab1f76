-- Lemmas on the definitions of specs/, in files of the same names.
pub mod End
pub mod Operators
pub mod Remembered
pub mod lemmas
