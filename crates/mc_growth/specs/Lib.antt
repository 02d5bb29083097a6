pub mod GrowthLaws
pub mod Growths
pub mod Joins
pub mod Outs
