pub mod Lending
pub mod Passing
pub mod Steps
pub mod Unique
