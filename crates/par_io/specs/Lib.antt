-- The definitions of this crate.
pub mod Causes
pub mod Counted
pub mod Memory
pub mod Reading
pub mod Writing
