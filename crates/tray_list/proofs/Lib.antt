-- `Bits` says which regions' bits a sum has; `Own` has the theorem that one region's bit picks its own list; `Points` a tray of one region; `lemmas.Full` what the
-- list holds.
pub mod Bits
pub mod Own
pub mod Points
pub mod lemmas
