pub mod EndLaws
pub mod Ends
pub mod Journals
pub mod Printed
pub mod Rings
pub mod Words
