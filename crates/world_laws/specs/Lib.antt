-- The definitions of this crate.
pub mod Deliveries
pub mod Shown
pub mod Starts
pub mod Worlds
