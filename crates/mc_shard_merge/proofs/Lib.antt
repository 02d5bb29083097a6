pub mod Among
pub mod Sorted
pub mod Runs
