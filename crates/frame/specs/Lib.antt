pub mod Layout
pub mod Frame
