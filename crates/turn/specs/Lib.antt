pub mod Moves
pub mod Applying
pub mod Turning
