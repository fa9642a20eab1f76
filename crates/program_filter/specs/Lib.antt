-- What a run of a program from standard input to standard output comes to.
pub mod Answered
