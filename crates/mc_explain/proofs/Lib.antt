pub mod Faults
pub mod Features
pub mod Left
