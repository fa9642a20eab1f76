-- Numbers of two 64-bit words: what they mean, and the laws of their sums, differences and products.
pub mod Meaning
pub mod lemmas
