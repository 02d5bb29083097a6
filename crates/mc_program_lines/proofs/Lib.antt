pub mod Blocks
pub mod FinishedBlocks
pub mod Found
pub mod KeptRules
pub mod Pairs
pub mod WordLists
pub mod Wanting
