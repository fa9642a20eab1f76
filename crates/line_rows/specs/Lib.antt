-- `Row` has the law of a row, for any bands; `Steps` the laws of a shift and of a scaling.
pub mod Row
pub mod Steps
pub mod lemmas
