-- The cells of a row.
pub mod Cells
