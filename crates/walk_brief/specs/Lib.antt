-- `Brief` has what a brief look tells.
pub mod Brief
