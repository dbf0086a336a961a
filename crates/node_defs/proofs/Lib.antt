-- The lemmas of this crate.
pub mod Admitted
pub mod LawfulEvents
pub mod NamedItems
pub mod SameLemmas
pub mod Settings
pub mod CountingLemmas
