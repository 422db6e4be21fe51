pub mod After
pub mod Range
pub mod Lawful
pub mod Seen
