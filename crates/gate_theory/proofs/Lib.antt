-- Theorems on the words of specs/: `Exact` says that the word of a matrix spells it, `Normal` and `Tailed` that it is in normal form.
pub mod lemmas
pub mod Exact
pub mod Normal
pub mod Tailed
