-- What the entries answer: `Calls` on a session, `Alone`, `Operators` and `Companions` without one. `Run` is lists of calls on a session.
pub mod Calls
pub mod Alone
pub mod Operators
pub mod Companions
pub mod lemmas
