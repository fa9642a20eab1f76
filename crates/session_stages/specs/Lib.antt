pub mod World
pub mod Session
pub mod Meaning
pub mod Place
