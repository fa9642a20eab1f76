pub mod Equal
pub mod Unitary
pub mod Closing
pub mod Passing
pub mod Fewest
pub mod Handed
