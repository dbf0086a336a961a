-- The definitions of this crate.
pub mod Words
pub mod Numerals
pub mod OptionUses
pub mod CommandOptions
