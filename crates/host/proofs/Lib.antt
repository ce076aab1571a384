pub mod Firsts
pub mod Finding
pub mod Ranges
pub mod Puts
pub mod Unique
