-- Gate words (SPEC, "Gate words"), from parities up. That the words spell what they are to (`Exact`) in normal form (`Tailed`) is proved in proofs/.
pub mod Bits
pub mod Odd
pub mod Points
pub mod Parities
pub mod State
pub mod Table
pub mod Bytes
pub mod Word
pub mod Matrix
pub mod Normal
