-- The lemmas of this crate.
mod Runnable
