pub mod Bytes
pub mod Kinds
pub mod Decoded
pub mod Loaded
pub mod Seen
