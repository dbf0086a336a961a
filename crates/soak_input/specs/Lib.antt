-- The definitions of this crate, with those of lower crates that its clauses cite.
pub use Rattle.input_doc.specs.Inputs
pub use Rattle.input_doc.specs.LawfulInputs
pub use Rattle.input_doc.specs.Held
pub use Rattle.contract_text.specs.TextMeaning
pub mod Generator
pub mod Laws
