-- The lemmas of this crate.
pub mod EndorsedMeant
pub mod Validation
pub mod Halves
pub mod Meant
pub mod FirstWriters
