-- The definitions of this crate, with those of lower crates that its clauses cite.
pub use Rattle.oxii_defs.specs.Syntax
pub use Rattle.oxii_defs.specs.Table
pub use Rattle.oxii_defs.specs.Lawful
pub use Rattle.oxii_defs.specs.BlockBytes
pub use Rattle.oxii_defs.specs.Chain
pub use Rattle.oxii_defs.specs.Lines
pub use Rattle.oxii_defs.specs.State
pub use Rattle.node_defs.specs.Programs
pub use Rattle.node_defs.specs.Accepted
pub use Rattle.node_defs.specs.Ledger
pub use Rattle.txn_core.specs.MeantTable
pub use Rattle.txn_types.specs.Fitting
pub mod Hashing
pub mod Ledgers
pub mod Halts
