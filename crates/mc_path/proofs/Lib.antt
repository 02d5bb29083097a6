pub mod Reaching
pub mod Shown
pub mod Walking
