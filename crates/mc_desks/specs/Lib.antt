pub mod Passes
pub mod Laid
pub mod Finished
