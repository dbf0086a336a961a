-- The lemmas of this crate.
mod SpotLemmas
mod PutLemmas
mod Tallies
