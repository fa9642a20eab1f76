-- What a call gives that copies the part (`Copies`), and its laws (`Laws`).
pub mod Copies
pub mod lemmas
