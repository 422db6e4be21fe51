pub mod Read
pub mod Taken
pub mod Told
