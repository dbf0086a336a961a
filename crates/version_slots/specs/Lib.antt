-- The definitions of this crate, with those of lower crates that its clauses cite.
pub use Rattle.board_frame.specs.Frames
pub use Rattle.board_frame.specs.Seen
pub mod Places
