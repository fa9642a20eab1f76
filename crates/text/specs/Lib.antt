-- What the contracts of `text` cite: numbers written.
pub mod Decimal
pub mod Written
pub mod Append
