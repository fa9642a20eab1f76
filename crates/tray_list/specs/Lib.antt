-- `Tray` has a tray's list; `Bits` the numbers of which regions hold a point; `Own` what one region's bit picks; `Points` its points in a list of numbers;
-- `Nearer` where the list begins, from where its regions' lists begin.
pub mod Tray
pub mod Bits
pub mod Own
pub mod Points
pub mod Nearer
pub mod lemmas
