-- The definitions of this crate.
pub mod Staffed
pub mod Completion
pub mod WholeText
pub mod Calm
pub mod CalmLaws
pub mod TextLaws
pub mod Needed
pub mod Counted
pub mod WitnessLaws
