pub mod Bounded
pub mod Listed
pub mod Twins
pub mod Table
