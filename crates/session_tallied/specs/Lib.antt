-- The bench's session: `Run` says what a list of calls is, `Counted` what the counts are after any; `Counts` has them from the calls' arguments alone, `Refused` says that refused
-- calls do not touch them, and `Operators` that operator readings do not.
pub mod Run
pub mod Counted
pub mod lemmas
