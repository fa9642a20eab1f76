-- What one reading of a job's bytes is.
pub mod Record
pub mod lemmas
