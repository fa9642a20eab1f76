-- `Tariff` is what one word costs (Ticket 8), `Tray` what the words of a tray cost together (Ticket 13): read these first. `Laws` has the theorems of one word, `Trays` those of a tray, `Closed` says which bytes are one, and `Sums` what a desk asks next.
pub mod Index
pub mod Tariff
pub mod Tray
pub mod lemmas
