pub mod Codecs
pub mod Choice
pub mod Empty
pub mod Equality
pub mod Own
pub mod Same
