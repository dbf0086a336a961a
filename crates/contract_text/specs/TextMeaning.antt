-- What a contract's text is: by the grammar, the limits and the flaws alone.
use Rattle.std.specs.Prelude.{◌≡◌, ℕ, List, [], map}
use Rattle.oxii_defs.specs.Syntax.{Op}
use Rattle.contract_grammar.specs.Tree as raw
use Rattle.contract_grammar.specs.Lexer.{tokens}
use Rattle.contract_grammar.specs.Grammar.{SpellsContract}
use Rattle.contract_grammar.specs.Limits.{IsWithinLimits}
use Rattle.contract_text.specs.Flaws.{flaws}
use Rattle.contract_text.specs.Typed.{typed_op}

-- the text spells operations within the limits that have no flaw and stand for these
pub record IsContract (text : List ℕ) (typed : List Op) : Type 0 where
  pub operations : List raw.Op
  pub spelled : SpellsContract (tokens text) operations
  pub within : IsWithinLimits (tokens text)
  pub flawless : flaws operations ≡ []
  pub stands : typed ≡ map typed_op operations
