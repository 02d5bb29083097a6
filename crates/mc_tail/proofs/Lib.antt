pub mod Commands
pub mod Earlier
pub mod Joins
pub mod Lines
pub mod Reading
