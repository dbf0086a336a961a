-- The definitions of this crate, with those of lower crates that its clauses cite.
pub use Rattle.board_work.specs.Plans
pub use Rattle.board_work.specs.Spans
pub mod Fitting
pub mod Hints
pub mod Others
pub mod Passes
pub mod Tasks
