pub mod Lines
pub mod Scenes
pub mod Outputs
pub mod Chains
pub mod Groups
pub mod Generated
