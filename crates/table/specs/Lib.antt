pub mod Table
pub mod Stepping
