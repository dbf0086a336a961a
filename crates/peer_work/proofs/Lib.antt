-- The lemmas of this crate.
pub mod Openings
pub mod Composing
pub mod Finishing
