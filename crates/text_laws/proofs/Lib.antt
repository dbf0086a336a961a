-- The lemmas of this crate.
pub mod SerialTexts
pub mod Counts
