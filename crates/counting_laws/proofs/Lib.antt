-- The lemmas of this crate.
pub mod Reversed
pub mod Firsts
pub mod Reaching
