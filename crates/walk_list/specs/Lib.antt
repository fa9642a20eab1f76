-- `Walk` has the definitions. The theorems are in proofs/lemmas.
pub mod Walk
