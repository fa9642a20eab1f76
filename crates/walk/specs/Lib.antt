-- `Prepared` has jobs ready for hand-outs; `Written` rows as they are written; `Hand` what a hand-out writes.
pub mod Prepared
pub mod Written
pub mod lemmas
