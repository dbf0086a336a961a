-- The lemmas of this crate.
pub mod LedgerLemmas
pub mod HashLemmas
