pub mod Taking
pub mod lemmas
