-- Laws of candidate_plan.
pub mod Cases
