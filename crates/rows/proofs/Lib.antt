pub mod After
pub mod More
