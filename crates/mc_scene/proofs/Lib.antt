pub mod Numbered
pub mod Drawing
pub mod Outcomes
pub mod Devices
pub mod Channels
