pub mod Assigning
pub mod Commanding
pub mod Laying
pub mod Networks
pub mod Phasing
pub mod States
pub mod Swapping
pub mod Whole
