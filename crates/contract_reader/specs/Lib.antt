-- The definitions of this crate, with those of lower crates that its clauses cite.
pub use Rattle.contract_grammar.specs.Tree
pub use Rattle.contract_grammar.specs.Held
pub use Rattle.contract_grammar.specs.Lexer
pub use Rattle.contract_grammar.specs.Grammar
pub use Rattle.contract_grammar.specs.Limits
pub use Rattle.contract_grammar.specs.Faults
pub use Rattle.contract_grammar.specs.Reading
pub mod Views
pub mod Counted
pub mod Exact
