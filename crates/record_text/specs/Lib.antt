-- The line of words that says a record (`Lines`), as texts put one after another (`Texts`), the records at the front of bytes (`Records`), how long their text is (`Sizes`), and the fields of a body (`Fields`).
pub mod Lines
pub mod Texts
pub mod Records
pub mod Fields
pub mod lemmas
