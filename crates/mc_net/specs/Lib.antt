pub mod Details
pub mod Followed
pub mod Nets
pub mod Reading
pub mod TextLaws
pub mod Texts
pub mod Versions
