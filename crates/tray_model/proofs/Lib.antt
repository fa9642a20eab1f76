-- Lemmas on the definitions of specs/, in files of the same names; `lemmas.Agree` says that the answers are those of the rules.
pub mod End
pub mod lemmas
