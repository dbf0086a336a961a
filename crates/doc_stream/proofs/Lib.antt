-- The lemmas of this crate.
pub mod RequestsMeant
pub mod ConfigsMeant
pub mod Counts
pub mod StreamMeant
pub mod StreamLawful
