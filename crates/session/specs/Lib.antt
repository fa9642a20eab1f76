pub mod Run
pub mod RunCalls
pub mod RunWalk
pub mod RunImage
pub mod lemmas
