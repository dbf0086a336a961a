-- The lemmas of this crate.
pub mod PlanLemmas
pub mod PassLemmas
