-- The definitions of this crate, with those of lower crates that its clauses cite.
pub use Rattle.txn_types.specs.Values
pub use Rattle.oxii_defs.specs.Lines
pub use Rattle.node_defs.specs.Same
pub use Rattle.node_defs.specs.World
pub use Rattle.doc_forms.specs.Faults
pub use Rattle.doc_forms.specs.Check
pub use Rattle.doc_forms.specs.Answers
pub use Rattle.doc_forms.specs.Meaning
pub mod Tables
pub mod Places
pub mod Votes
pub mod Hashes
pub mod Blocks
pub mod Schedule
pub mod ScheduleMeaning
