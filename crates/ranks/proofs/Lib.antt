-- Lemmas on the definitions of specs/, in files of the same names: the list of the ranks that pass a test, and which it holds, in which order; what a
-- hand-out writes of it; the ranks of points. `lemmas.Skip` says which ranks a search may pass over.
pub mod Rest
pub mod Members
pub mod Handed
pub mod Rank
pub mod lemmas
