pub mod LaidOut
pub mod Layouts
pub mod PlanLaws
pub mod Plans
pub mod Refusals
pub mod Setups
