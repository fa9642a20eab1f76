-- `Text` is the text of a word and the word of a text, `Calls` what the two calls answer and write: read these first. `Lines` has the mathematics of lines; `Laws` says that reading and writing undo each other, `Back` the same of the calls.
pub mod Text
pub mod Calls
pub mod Laws
pub mod lemmas
