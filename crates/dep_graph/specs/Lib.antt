-- The definitions of this crate, with those of lower crates that its clauses cite.
pub mod Successors
pub use Rattle.oxii_defs.specs.Dependency
pub use Rattle.known_defs.specs.Known
pub use Rattle.node_defs.specs.Sent
pub use Rattle.txn_core.specs.Graphs
