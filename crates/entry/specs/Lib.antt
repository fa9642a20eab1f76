-- `Entry` has the definitions: read it first. `Full` is the theorem about the list, and `Disk` that it is empty outside the unit disk. `Next` is where the search of `entry_candidates` leads, `Given` the hand-out's answer.
pub mod Entry
pub mod Full
pub mod Next
pub mod Given
pub mod lemmas
