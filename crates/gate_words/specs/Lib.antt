-- What the call of the words hands back and writes (`Words`), and what its proof cites (`Laws`).
pub mod Words
pub mod lemmas
