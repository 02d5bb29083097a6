pub mod Drawn
pub mod Faulty
pub mod Requests
pub mod Top
pub mod Words
