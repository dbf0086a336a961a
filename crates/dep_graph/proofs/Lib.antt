-- The lemmas of this crate.
pub mod FollowLemmas
pub mod KnownLemmas
