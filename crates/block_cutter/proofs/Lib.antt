-- The lemmas of this crate.
pub mod Names
pub mod AdmitLemmas
pub mod OpenLemmas
pub mod StandLemmas
pub mod StreamLemmas
