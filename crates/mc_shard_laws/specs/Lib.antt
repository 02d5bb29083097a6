pub mod Logs
pub mod Together
pub mod Growth
pub mod Digests
pub mod Merged
pub mod Sound
pub mod Worked
pub mod Askers
