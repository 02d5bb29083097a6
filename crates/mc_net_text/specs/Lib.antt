pub mod Lines
pub mod Names
pub mod NetLaws
pub mod Texts
