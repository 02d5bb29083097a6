pub mod AccountSums
pub mod Tallying
pub mod Parts
pub mod Dealing
pub mod Seating
