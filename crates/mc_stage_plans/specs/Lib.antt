pub mod PlanLaws
pub mod Planned
