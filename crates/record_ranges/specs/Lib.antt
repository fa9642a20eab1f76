-- The ranges of the fields of job records (`Ranges`), and the forms in which the code decides them (`Forms`).
pub mod Ranges
pub mod lemmas
