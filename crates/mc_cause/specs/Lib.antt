pub mod Carried
pub mod CauseLaws
pub mod Causes
pub mod Kept
pub mod Notes
pub mod Worked
