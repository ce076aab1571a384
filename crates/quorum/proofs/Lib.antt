pub mod Counting
pub mod Honest
pub mod Reached
pub mod Members
pub mod Adding
pub mod Unique
