pub mod Lawful
pub mod Names
pub mod Viewing
mod Running
mod Stopping
