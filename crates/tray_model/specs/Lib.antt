-- `Session` has the model; `Rules` the rules of a list of calls; `Since` and `First` what was handed out; `End` a finished walk; `Refused` refused calls.
-- The proofs stand in proofs/: `Agree`, that the answers are those of the rules, and the others under these names.
pub mod Session
pub mod Rules
pub mod Since
pub mod End
pub mod lemmas
