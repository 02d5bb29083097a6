pub mod Boxes
pub mod Choices
pub mod Closings
pub mod Entries
pub mod Noted
pub mod Surveys
