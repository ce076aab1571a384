pub mod Telling
pub mod Passing
pub mod Changes
pub mod Unique
