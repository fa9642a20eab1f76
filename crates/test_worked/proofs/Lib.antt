-- `Table`: each row of the table is as it claims.
pub mod Table
