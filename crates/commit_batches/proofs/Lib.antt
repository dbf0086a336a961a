-- The lemmas of this crate.
mod CutLemmas
