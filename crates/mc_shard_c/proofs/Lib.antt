pub mod KeptValues
pub mod Laid
pub mod Owners
pub mod Replayed
pub mod Saved
pub mod Sizes
pub mod Told
pub mod Written
