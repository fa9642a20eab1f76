-- Words as bytes, and as letters.
pub mod Letters
