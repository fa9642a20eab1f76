-- `Sheet` is what a reading is, `Write` what a writing is: read them first. `Crew` says what the crew's answers depend on, `Jobs` that a job's reading still refuses a sheet, `Back` that the desk reads what was written.
pub mod Sheet
pub mod Write
pub mod Crew
pub mod lemmas
