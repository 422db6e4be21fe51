pub mod Problem
pub mod Depth
pub mod Lawful
pub mod Seen
pub mod Sealed
