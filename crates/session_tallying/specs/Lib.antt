-- The bench's session: `Tallied` says what each call does to the counts, `Points` which points a hand-out counts.
pub mod Tallied
pub mod lemmas
