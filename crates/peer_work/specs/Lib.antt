-- The definitions of this crate, with those of lower crates that its clauses cite.
pub use Rattle.board_work.specs.Plans
pub use Rattle.hash_ledger.specs.Ledgers
pub mod Openings
pub mod Completing
