pub mod Printed
pub mod Progress
pub mod ScriptRuns
pub mod Scripts
