-- The lemmas of this crate.
pub mod Walks
pub mod Parses
pub mod FoundValues
pub mod Numbers
pub mod Spelling
pub mod Gives
pub mod Saying
pub mod RunWords
pub mod SoakWords
pub mod Commands
