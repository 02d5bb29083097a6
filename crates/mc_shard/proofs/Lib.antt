pub mod Counts
pub mod Growing
pub mod Loaded
pub mod Owed
pub mod Owned
pub mod Same
pub mod Shaped
