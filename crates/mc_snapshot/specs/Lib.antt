pub mod Boxes
pub mod Forms
pub mod Kinds
pub mod Lengths
pub mod Programs
pub mod Rules
pub mod Shards
pub mod Slots
