pub mod Codes
pub mod Wire
pub mod Reading
