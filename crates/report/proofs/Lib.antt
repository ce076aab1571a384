pub mod Digits
pub mod Lengths
pub mod Adding
pub mod Lines
pub mod Written
pub mod Laws
pub mod Unique
