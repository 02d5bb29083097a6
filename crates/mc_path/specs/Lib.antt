pub mod Reached
pub mod Views
pub mod Walks
