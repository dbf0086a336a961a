-- The lemmas of this crate.
pub mod AgreedLemmas
pub mod LawfulBlocks
pub mod WorldTextLemmas
pub mod EvidenceLemmas
pub mod WorldLemmas
pub mod TextLemmas
pub mod SoakWorlds
