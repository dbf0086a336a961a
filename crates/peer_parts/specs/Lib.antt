-- The definitions of this crate, with those of lower crates that its clauses cite.
pub use Rattle.board_work.specs.Plans
pub use Rattle.board_work.specs.Spans
pub use Rattle.peer_laws.specs.Turns
pub mod Found
pub mod Ready
pub mod Joining
pub mod Tasks
pub mod Voting
pub mod Owning
pub mod Judging
pub mod InForce
pub mod Holding
