-- The lemmas of this crate.
pub mod RangeLemmas
pub mod StreamTable
