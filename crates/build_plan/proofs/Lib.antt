-- Laws of build_plan.
pub mod PlanLaws
