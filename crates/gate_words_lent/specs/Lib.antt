-- What the call gives and how the lent slices end (`Ends`), and the theorems of the words (`Theorems`).
pub mod Ends
pub mod lemmas
