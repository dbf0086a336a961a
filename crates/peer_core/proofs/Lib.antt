-- The lemmas of this crate.
pub mod Taking
pub mod Starting
pub mod CountLemmas
