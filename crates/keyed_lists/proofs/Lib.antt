-- The lemmas of this crate.
mod KeyedLemmas
pub mod Among
pub mod Numbers
pub mod Pushes
