pub mod Apart
pub mod Shared
