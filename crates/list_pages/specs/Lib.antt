-- What the contracts of `list_pages` cite: a hand-out with its lines.
pub mod Page
pub mod Given
