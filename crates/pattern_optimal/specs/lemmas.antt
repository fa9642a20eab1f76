-- What the lemmas of proofs/lemmas are stated with: nothing that a contract, or a claim of docs/PROOF.md, is stated with is defined here.
pub mod Passing
