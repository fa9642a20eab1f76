-- What the contracts of `text_hex` cite: hexadecimal pairs read.
pub mod Hex
