-- The lemmas of this crate.
pub mod Mapped
pub mod Turns
pub mod AppsMeant
pub mod FaultyMeant
pub mod AppsLawful
pub mod RecordsKept
pub mod RecordsSorted
pub mod RecordsMeant
