-- The lemmas of this crate.
pub mod Small
pub mod Turns
pub mod Exactly
