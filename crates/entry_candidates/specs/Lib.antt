-- `Start` is the rank from which on the solutions after a place come, `Want` what the search looks for, `Two` its mathematics, `Least` what it keeps, `Column` and
-- `Centre` its steps, `Filter` its quick test, a table (`Every`); `Ready` is the code's own struct.
pub mod Start
pub mod Want
pub mod Least
pub mod Two
pub mod Column
pub mod Centre
pub mod Filter
pub mod Ready
pub mod lemmas
