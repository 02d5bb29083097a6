pub mod Laws
pub mod Places
pub mod Printed
pub mod Readings
