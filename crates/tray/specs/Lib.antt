-- `Session` has what a session and its answers mean in the model of `tray_model`, and `Meaning` that it fixes the session; `Calls` the theorems of `tray_model` in the world of trays; `Run` calls of the code, one after another, and `RunCalls`
-- the theorems for every run of them.
pub mod Session
pub mod Run
pub mod RunCalls
pub mod lemmas
