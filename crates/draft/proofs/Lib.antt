pub mod Grown
pub mod Counted
pub mod Entered
pub mod Last
pub mod Kept
