-- What the contracts of `program_usage` cite.
pub mod Said
