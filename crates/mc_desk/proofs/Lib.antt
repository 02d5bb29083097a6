pub mod Requests
pub mod Indices
pub mod Moves
pub mod Dealing
pub mod Gathering
pub mod Draining
pub mod Callers
