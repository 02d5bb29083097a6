pub mod AllPairs
pub mod LegLaws
pub mod Members
mod Named
mod SameLegs
mod Sorting
