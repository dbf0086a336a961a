-- The lemmas of this crate.
pub mod States
pub mod Sound
pub mod Starts
pub mod Fitted
pub mod Traced
pub mod VersionsKept
