-- The lemmas of this crate.
pub mod StreamSteps
pub mod PayMeant
pub mod MadeLawful
pub mod MadeWhole
