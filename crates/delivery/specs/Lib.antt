pub mod Recording
pub mod Delivery
pub mod Parts
