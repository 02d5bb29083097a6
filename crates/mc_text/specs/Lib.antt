pub mod Lines
pub mod Spelling
pub mod Draws
pub mod NameLists
pub mod Adding
