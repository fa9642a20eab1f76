-- What the contracts of `record_forms` cite: the fields of each kind of record, and their numbers as bytes.
pub mod Forms
pub mod Laid
pub mod Back
