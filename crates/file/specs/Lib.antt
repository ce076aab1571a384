pub mod Layouts
pub mod Reading
