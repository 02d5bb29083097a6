pub mod Asked
pub mod Left
pub mod Prepared
pub mod Ran
