-- `Line` has the definitions; `Narrow` the shift and the scaling, `Scaled` the problem that they leave, `Walk` how its pairs are met, `Turns` that they are the problem's.
pub mod Line
pub mod Narrow
pub mod Sized
pub mod Strips
pub mod Ends
pub mod Bounds
pub mod Past
pub mod Scaled
pub mod Walk
pub mod Turns
pub mod lemmas
