-- Counts by exponent: `Spread` defines them, `Odd` has exponents by parity, `Places` the laws of lists with a number for each exponent, `Read` those of points in a slice.
pub mod Spread
pub mod Odd
pub mod lemmas
