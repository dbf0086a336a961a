-- The definitions of this crate.
pub mod Innocent
pub mod Innocence
pub mod OneEvidence
