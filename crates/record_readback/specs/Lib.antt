-- What `record_forms` writes (`Read`), and what `job` writes (`Rows`), `record` reads; and the bytes of a record are those of its numbers (`Again`); what is accepted is such a record (`Whole`).
pub mod Read
pub mod Rows
pub mod Again
pub mod Whole
