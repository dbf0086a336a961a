-- The lemmas of this crate.
mod GraphLists
mod NewblockLemmas
mod Counting
mod Contents
mod Held
pub mod Lawful
