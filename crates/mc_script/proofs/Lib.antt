pub mod Apart
pub mod Read
pub mod Missing
