pub mod Pattern
pub mod lemmas
