-- `Search` has what each level of the search promises; `Columns` what is kept of columns.
pub mod Search
pub mod Columns
