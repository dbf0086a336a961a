-- The definitions of this crate, with those of lower crates that its clauses cite.
pub use Rattle.board_work.specs.PassStates
pub use Rattle.board_work.specs.Plans
pub use Rattle.board_work.specs.Spans
pub use Rattle.board_words.specs.Filled
pub use Rattle.board_words.specs.Runs
pub mod Seen
pub mod Frames
