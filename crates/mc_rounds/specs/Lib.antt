pub mod Answers
pub mod Playing
pub mod Settling
pub mod Since
pub mod Stops
