pub mod Listed
pub mod Lists
pub mod LooseValues
pub mod ProgramFits
pub mod Says
pub mod Stored
pub mod Written
