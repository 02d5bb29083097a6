pub mod GrowingTexts
pub mod Planned
pub mod RestLaws
pub mod Rests
