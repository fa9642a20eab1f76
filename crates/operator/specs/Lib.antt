-- Grid operators: what the layers above may cite. Definitions are in Operator and Inverse, what holds of them in Image and Undoes; the other files
-- are steps on the way.
pub mod Operator
pub mod Inverse
pub mod Accepted
pub mod Bounded
pub mod Narrow
pub mod lemmas
