-- What the programs `qasm` and `unqasm` print (`File`), what the code meets of words and lines (`Laws`), and that a file is read back and `pattern`'s output is read (`Theorems`).
pub mod File
pub mod lemmas
