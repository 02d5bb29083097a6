pub mod TunnelLaws
pub mod Sums
pub mod Turns
pub mod Weights
