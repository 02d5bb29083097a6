pub mod Places
pub mod Rules
pub mod Meaning
pub mod Printed
pub mod Batches
pub mod SlotLines
