-- The lemmas of this crate.
pub mod LineSteps
pub mod Outcomes
pub mod Entries
