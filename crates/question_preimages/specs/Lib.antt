pub mod Image
pub mod Told
