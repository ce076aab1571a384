pub mod First
pub mod Words
pub mod Record
pub mod Calls
