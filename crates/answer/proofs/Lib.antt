pub mod Guards
pub mod Once
pub mod Tests
