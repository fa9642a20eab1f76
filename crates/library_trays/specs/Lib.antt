-- `Numbers` says what numbers mean as a session of trays, and the numbers of an answer; `Calls` what a call on them does; `Run` that a list of calls answers as the rules do.
pub mod Numbers
pub mod Calls
pub mod lemmas
