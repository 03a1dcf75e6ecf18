pub mod PlanLaws
pub mod Once
