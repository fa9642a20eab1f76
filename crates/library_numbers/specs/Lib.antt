-- `Numbers` says what numbers mean and the numbers of an answer; `Each` has the laws of a loop over two arrays.
pub mod Numbers
pub mod lemmas
