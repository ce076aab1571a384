pub mod World
pub mod Count
pub mod Sets
