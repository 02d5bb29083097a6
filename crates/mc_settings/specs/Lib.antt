pub mod Alike
pub mod Batches
pub mod SettingLaws
pub mod Settings
