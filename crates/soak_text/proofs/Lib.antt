-- The lemmas of this crate.
pub mod Counts
pub mod Pairs
pub mod Totals
pub mod Tips
pub mod Chains
pub mod Premises
pub mod Whole
