-- The lemmas of this crate.
pub mod Lexing
pub mod TokensMeant
pub mod Expressions
pub mod Spelled
pub mod Runs
pub mod SoFar
pub mod GoesOn
pub mod Chains
pub mod ChainEnds
pub mod Meaning
pub mod Determined
pub mod Tallies
