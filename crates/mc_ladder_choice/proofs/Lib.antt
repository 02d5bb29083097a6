pub mod Added
pub mod Marked
pub mod Noting
pub mod Shown
pub mod Surveyed
pub mod Walked
