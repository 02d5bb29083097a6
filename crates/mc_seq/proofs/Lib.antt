pub mod AllowedCommands
pub mod Candidates
mod Counting
mod DrawsEnd
mod Dropping
pub mod Endings
pub mod Finds
pub mod ForEach
pub mod Fronts
pub mod Hears
mod Kth
pub mod LeftCommands
pub mod Making
pub mod Nexts
pub mod OneSchedule
pub mod Retries
mod RetriesMade
pub mod Rounds
pub mod Runs
pub mod Scheduled
pub mod Segments
mod SetCounts
pub mod Shifts
mod SettlesSoFar
mod Unprogrammed
