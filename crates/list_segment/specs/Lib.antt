-- What the contracts of `list_segment` cite: `Part` has the definition, `Ranks` the range of ranks that a range of a is, `Between` and `Leading` laws of lists, `Segment` a page, `Printed` what a
-- printing in pieces comes to.
pub mod Part
pub mod Ranks
pub mod Leading
pub mod Segment
pub mod Printed
pub mod Joined
pub mod lemmas
