pub mod Runs
pub mod Saturation
pub mod Signs
pub mod Words
