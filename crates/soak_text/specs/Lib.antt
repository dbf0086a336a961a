-- The definitions of this crate, with those of lower crates that its clauses cite.
pub use Rattle.node_defs.specs.World
pub use Rattle.node_defs.specs.AgreedSettings
pub use Rattle.node_defs.specs.Ledger
pub use Rattle.node_defs.specs.Cutting
pub use Rattle.world_laws.specs.Worlds
pub use Rattle.txn_core.specs.States
pub use Rattle.input_doc.specs.Inputs
pub use Rattle.soak_input.specs.Generator
pub mod Summary
pub mod Played
