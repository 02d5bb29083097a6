pub mod Cuts
pub mod FirstWord
pub mod Numerals
pub mod Places
