-- What the lemmas of proofs/lemmas are stated with: nothing that a contract is stated with is defined in these files.
pub mod Full
