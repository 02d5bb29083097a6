pub mod Cells
pub mod Changes
pub mod Data
pub mod Pages
pub mod Replaying
