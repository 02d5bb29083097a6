pub mod Ends
pub mod Following
pub mod Laws
pub mod Lines
