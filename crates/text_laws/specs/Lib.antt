-- The definitions of this crate, with those of lower crates that its clauses cite.
pub use Rattle.node_defs.specs.Text
pub mod SerialText
pub mod Laws
pub mod AgreedCounts
