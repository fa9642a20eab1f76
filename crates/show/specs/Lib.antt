-- What `show` prints (`Show`), and that `job` of it is the same bytes (`Back`).
pub mod Show
pub mod Back
