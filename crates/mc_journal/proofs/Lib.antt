pub mod Going
pub mod Joined
pub mod Again
pub mod Places
