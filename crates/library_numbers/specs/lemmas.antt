-- Proved, and not to be read to believe it: nothing that a contract, or a claim of docs/PROOF.md, is stated with is defined in these files.
pub mod Each
pub mod Mapped
