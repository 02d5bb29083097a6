pub mod Answers
pub mod Behind
pub mod Calls
pub mod Printed
pub mod Reasons
pub mod Statuses
