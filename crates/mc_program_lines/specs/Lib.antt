pub mod BlockLaws
pub mod Finished
pub mod LineReadings
pub mod Programs
pub mod Readings
pub mod WordLists
