-- Operators as matrices: what the layers above may cite. Definitions are in Matrix, what holds of them in Determinant, Composed and Within; Bounded is a
-- step on the way.
pub mod Matrix
pub mod Within
pub mod Bounded
pub mod lemmas
