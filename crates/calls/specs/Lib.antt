pub mod Flat
pub mod Frames
pub mod Hosts
pub mod Runs
pub mod List
pub mod Lines
pub mod Parts
