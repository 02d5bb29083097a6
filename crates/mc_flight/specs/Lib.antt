pub mod Tallies
pub mod Seats
