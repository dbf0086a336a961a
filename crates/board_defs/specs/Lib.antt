-- The definitions of this crate.
pub mod Closure
pub mod Trace
pub mod Rounds
