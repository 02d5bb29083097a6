pub mod Legs
pub mod Mixes
pub mod Pairs
pub mod Printed
