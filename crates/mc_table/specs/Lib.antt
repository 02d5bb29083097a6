pub mod Shown
pub mod Summaries
pub mod Whys
pub mod Words
