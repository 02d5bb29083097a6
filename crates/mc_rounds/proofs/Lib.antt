mod Added
mod AtLast
mod Ends
mod Inside
mod Used
pub mod NoneOwed
pub mod Plays
pub mod Rested
pub mod Retried
mod Since
pub mod Takes
pub mod TurnKinds
