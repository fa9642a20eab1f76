-- What the contract of `text_numeral` cites.
pub mod Numeral
