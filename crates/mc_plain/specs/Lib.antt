pub mod Asked
pub mod Numbers
pub mod Programs
pub mod Texts
pub mod Views
