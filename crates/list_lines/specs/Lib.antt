pub mod Lines
pub mod lemmas
