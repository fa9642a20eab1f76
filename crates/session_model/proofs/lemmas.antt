pub mod Agree
pub mod First
pub mod Refused
