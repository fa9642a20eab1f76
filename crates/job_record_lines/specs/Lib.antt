-- Numbers in decimal are read again (`Digits`), those of a line (`Back`), the line of words that says a record (`Rows`) and a text of lines (`Text`).
pub mod Digits
pub mod Back
pub mod Rows
pub mod Text
