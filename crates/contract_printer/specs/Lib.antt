-- The definitions of this crate, with those of lower crates that its clauses cite.
pub use Rattle.oxii_defs.specs.Syntax
pub use Rattle.txn_core.specs.Meant
pub use Rattle.contract_grammar.specs.Tree
pub use Rattle.contract_grammar.specs.Lexer
pub use Rattle.contract_grammar.specs.Grammar
pub use Rattle.contract_grammar.specs.Limits
pub use Rattle.contract_text.specs.Flaws
pub use Rattle.contract_text.specs.Typed
pub use Rattle.contract_text.specs.TextMeaning
pub mod Plain
pub mod Printed
pub mod Canonical
pub mod SpacedTexts
pub mod Laws
