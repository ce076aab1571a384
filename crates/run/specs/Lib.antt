pub mod Starting
pub mod Playing
pub mod Broadcasts
pub mod Calls
pub mod Replaying
pub mod Parts
