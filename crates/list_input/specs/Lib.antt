-- What a whole input comes to (`Load`), and what the code meets on the way (`Reading`).
pub mod Load
pub mod lemmas
