pub mod Compared
pub mod Stamped
pub mod Turns
