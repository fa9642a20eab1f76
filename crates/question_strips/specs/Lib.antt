pub mod Reach
pub mod Sharp
pub mod Strips
pub mod Units
pub mod lemmas
