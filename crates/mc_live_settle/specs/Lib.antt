pub mod Answers
pub mod Laws
pub mod Orders
pub mod Settles
