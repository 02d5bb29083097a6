pub mod Phones
