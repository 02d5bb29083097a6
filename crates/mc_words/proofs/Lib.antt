mod BoxNames
pub mod WordsGiven
pub mod OneMode
pub mod Rows
pub mod Given
pub mod OneWord
pub mod Walks
pub mod Parsed
