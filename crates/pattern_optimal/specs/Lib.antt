-- `GateSet`: S†, T†, X, Y and Z as letters of their own. `Unbeaten`: words that meet a job. The theorems are in proofs/.
pub mod GateSet
pub mod Unbeaten
pub mod lemmas
