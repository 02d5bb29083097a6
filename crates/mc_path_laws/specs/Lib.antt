pub mod PathLaws
pub mod Rests
