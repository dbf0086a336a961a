-- The definitions of this crate, with those of lower crates that its clauses cite.
pub mod Standing
pub mod Taking
pub use Rattle.oxii_defs.specs.Table
pub use Rattle.oxii_defs.specs.Lawful
pub use Rattle.node_defs.specs.Admission
pub use Rattle.node_defs.specs.LawfulItems
pub use Rattle.node_defs.specs.Cutting
pub use Rattle.txn_core.specs.MeantTable
