pub mod Names
pub mod Paths
pub mod Stops
pub mod Words
