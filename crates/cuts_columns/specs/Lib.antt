-- `Sharp` has the sharper of lines.
pub mod Sharp
