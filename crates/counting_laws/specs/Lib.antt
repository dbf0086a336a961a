-- The definitions of this crate, with those of lower crates that its clauses cite.
pub use Rattle.node_defs.specs.Counting
pub mod Contents
pub mod Laws
