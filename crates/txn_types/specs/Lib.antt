-- The definitions of this crate.
pub mod Rising
pub mod Names
pub mod Values
pub mod Nodes
pub mod Fitting
