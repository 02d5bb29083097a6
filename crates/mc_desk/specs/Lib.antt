pub mod Histories
pub mod Desks
