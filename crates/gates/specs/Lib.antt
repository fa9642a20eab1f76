-- What the code that spells gate words is proved by.
pub mod Written
pub mod Going
pub mod Start
pub mod lemmas
