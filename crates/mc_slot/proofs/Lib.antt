mod Blanks
pub mod Equal
mod Tables
