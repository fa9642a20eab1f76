pub mod Search
pub mod lemmas
