pub mod Written
pub mod Laws
pub mod Parts
