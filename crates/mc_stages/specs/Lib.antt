pub mod Growing
pub mod Plans
pub mod StageLaws
pub mod StageRuns
