-- What the contracts of `scan` cite: runs of bytes, and numbers read.
pub mod Run
pub mod Number
