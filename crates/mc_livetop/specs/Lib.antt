pub mod Journals
pub mod Laws
pub mod Printed
pub mod Shown
pub mod Statuses
pub mod Texts
pub mod Top
pub mod Words
