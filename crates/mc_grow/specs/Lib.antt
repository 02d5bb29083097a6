pub mod Asked
pub mod Cuts
