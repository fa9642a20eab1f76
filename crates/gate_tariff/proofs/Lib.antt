pub mod Prices
pub mod Words
