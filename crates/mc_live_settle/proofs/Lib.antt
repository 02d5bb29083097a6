pub mod BehindLeft
pub mod Dealt
pub mod Interleaved
pub mod Ordered
pub mod Owners
