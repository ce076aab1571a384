pub mod Views
pub mod Unique
