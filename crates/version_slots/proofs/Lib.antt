-- The lemmas of this crate.
pub mod PlaceLemmas
pub mod WalkBack
