-- `Past` has the order of places; `Floor` where a list goes on at the earliest; `Lane` the next points of one job, the first of them queued; `Lanes` those of all regions of a tray.
pub mod Past
pub mod Lane
pub mod Lanes
pub mod lemmas
