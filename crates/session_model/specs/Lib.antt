-- SPEC, "Calls", and demand 3, over any world: a parser of records, a test of points, operators. `Session` is what each call
-- does, `Rules` its rules, `Since` what was handed out since the last rewind or clearing. The claim, proved in proofs/: the answers are what the rules give
-- (`Agree`); the points handed out are the first ones of the full list (`First`); a refused call counts as not made (`Refused`); operator readings leave
-- the other answers alone (`Operators`), and the last accepted operator is remembered (`Remembered`).
-- The reduction's proposals are no part of a world, so all this holds whichever they are, and whenever they are made.
pub mod Session
pub mod Rules
pub mod Since
pub mod End
pub mod Operators
pub mod Remembered
pub mod lemmas
