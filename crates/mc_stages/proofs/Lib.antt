pub mod Grows
pub mod SettledOut
pub mod SettlesHold
