-- What the list program prints: `Output` is all of it for an input, `Pieces` what `next` fills into one slice after another; `Joined` says that the pieces
-- are the output.
pub mod Output
pub mod Pieces
pub mod lemmas
