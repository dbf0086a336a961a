-- The lemmas of this crate.
pub mod Opens
pub mod Filling
pub mod Decode
pub mod Gathered
mod EarlyVersions
