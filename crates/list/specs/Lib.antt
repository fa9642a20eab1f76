-- What a run of the list program comes to.
pub mod Answered
