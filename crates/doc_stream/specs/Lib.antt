-- The definitions of this crate, with those of lower crates that its clauses cite.
pub use Rattle.oxii_defs.specs.Table
pub use Rattle.oxii_defs.specs.Lawful
pub use Rattle.node_defs.specs.Admission
pub use Rattle.doc_forms.specs.Check
pub use Rattle.doc_forms.specs.Answers
pub use Rattle.doc_forms.specs.Meaning
pub mod Requests
pub mod Configs
pub mod Stream
pub mod StreamMeaning
