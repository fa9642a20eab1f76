-- In `lemmas`, `Points` has the ranks of points; `Full` the theorem about the full list; `Left` what is left of it from a rank on; `Count` how long it can be.
pub mod lemmas
