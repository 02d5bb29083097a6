pub mod Named
pub mod Shown
