-- The definitions of this crate, with those of lower crates that its clauses cite.
pub use Rattle.board_defs.specs.Closure
pub use Rattle.board_defs.specs.Trace
pub use Rattle.txn_core.specs.Graphs
pub use Rattle.board_core.specs.Counts
pub mod Plans
pub mod Spans
pub mod Scripts
pub mod PassStates
