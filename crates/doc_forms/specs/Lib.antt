-- The definitions of this crate, with those of lower crates that its clauses cite.
pub use Rattle.txn_types.specs.Names
pub use Rattle.txn_types.specs.Nodes
pub use Rattle.txn_types.specs.Rising
pub use Rattle.oxii_defs.specs.WellFormed
pub use Rattle.oxii_defs.specs.Lawful
pub mod Faults
pub mod Check
pub mod Answers
pub mod Forms
pub mod Tables
pub mod Sorted
pub mod Meaning
pub mod Agents
