pub mod Meaning
pub mod Readings
pub mod Rules
pub mod SoFar
pub mod Tails
