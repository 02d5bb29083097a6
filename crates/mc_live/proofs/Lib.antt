mod Halving
mod Joining
mod Stepping
pub mod Asks
pub mod Ends
mod Counts
mod Counted
pub mod Freed
pub mod Left
