-- What the contracts of `text_words` cite: the names of the commands, and the numbers and the bytes of a line.
pub mod Bytes
pub mod Names
pub mod Numbers
