pub mod Commands
pub mod CountsKept
mod Faults
pub mod Followed
pub mod Good
pub mod Holds
pub mod Limited
mod Lines
pub mod MomentsKept
mod Parts
pub mod Prefixes
pub mod Quiet
mod Reading
pub mod RetriesKept
pub mod Serving
mod Stands
mod ToldLines
pub mod Places
