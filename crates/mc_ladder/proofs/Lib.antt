mod Added
mod Drawing
mod Mapped
pub mod Named
pub mod Numbered
mod Sending
mod Taken
