-- The definitions of this crate, with those of lower crates that its clauses cite.
pub use Rattle.node_defs.specs.Rules
pub use Rattle.node_defs.specs.Log
pub use Rattle.node_defs.specs.Ledger
pub use Rattle.node_defs.specs.Sent
pub use Rattle.node_laws.specs.Growth
pub mod Turns
pub mod Runs
pub mod Notes
pub mod Delivery
