pub mod Explained
pub mod Hints
pub mod Quotes
pub mod Reasons
pub mod Sentences
