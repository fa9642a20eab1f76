-- What the part program prints (`Part`), what a run of it comes to (`Answered`), and that the parts joined are the list (`Joined`).
pub mod Part
pub mod Answered
pub mod Joined
