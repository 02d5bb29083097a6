pub mod BoxWords
pub mod HeldSlots
pub mod HeldTunnels
pub mod HeldTurns
pub mod ToldWords
pub mod Untold
