pub mod Points
pub mod Full
pub mod Left
pub mod Count
