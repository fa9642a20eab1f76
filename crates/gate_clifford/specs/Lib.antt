-- What the code that writes tails is proved by.
pub mod Written
pub mod lemmas
