-- The definitions of this crate.
pub mod Counts
pub mod Words
pub mod Script
pub mod Sums
pub mod Rule
pub mod Steps
pub mod Parts
pub mod Passes
pub mod Traces
pub mod Laws
