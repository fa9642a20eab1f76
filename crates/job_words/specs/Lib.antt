-- The records that lines of words say (`Rows`), and the laws that the code and the theorems cite (`Laws`).
pub mod Rows
pub mod Laws
