mod GrownRuns
mod JoinedPaths
mod Settled
pub mod Shapes
