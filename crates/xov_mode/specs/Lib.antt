-- The definitions of this crate.
pub mod Endorsed
pub mod Verdicts
pub mod Writers
pub mod Laws
