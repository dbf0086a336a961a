-- The definitions of this crate, with those of lower crates that its clauses cite.
pub use Rattle.board_work.specs.Scripts
pub mod Placed
pub mod Versions
pub mod Laws
