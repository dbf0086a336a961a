-- The lemmas of this crate.
pub mod WrittenLemmas
pub mod RunLemmas
pub mod InputLemmas
pub mod StateLemmas
pub mod CheckLemmas
pub mod CheckStepLemmas
pub mod TableNames
pub mod GraphLemmas
pub mod TouchLemmas
pub mod SearchLemmas
pub mod TableSync
