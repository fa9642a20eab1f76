-- `Points` has the rank of a point, a natural number, so that point order is the order of ranks; `Digits` the digits of which it is made; `Listed` the lists of the points that
-- pass a test, `Ascending` their order, `Slices` points in a list of numbers.
pub mod Digits
pub mod Points
pub mod Listed
pub mod Ascending
pub mod Slices
