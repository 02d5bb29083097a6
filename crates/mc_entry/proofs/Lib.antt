pub mod Rest
pub mod OneForm
pub mod Words
pub mod Fields
pub mod Signals
pub mod Listing
pub mod Beginning
