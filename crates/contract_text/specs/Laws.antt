-- What holds of the second pass.
use Rattle.std.specs.Prelude.{◌≡◌, ◌↔◌, ℕ, List, length, map}
use Rattle.std.specs.List.{All}
use Rattle.contract_grammar.specs.declared.token.Placed.{Placed}
use Rattle.contract_grammar.specs.Tree as raw
use Rattle.contract_grammar.specs.Grammar.{SpellsContract}
use Rattle.contract_grammar.specs.Limits.{IsWithinLimits}
use Rattle.txn_types.specs.Names.{IsName}
use Rattle.oxii_defs.specs.Syntax.{Op}
use Rattle.oxii_defs.specs.WellFormed.{IsWellFormed}
use Rattle.oxii_defs.specs.NameLists.{AllDiffer}
use Rattle.oxii_defs.specs.Lawful.{IsUpTo}
use Rattle.contract_text.specs.Room.{AreBounded}
use Rattle.contract_text.specs.TextMeaning.{IsContract}
use Rattle.contract_text.specs.TextFaults.{Verdict, Tells}
use Rattle.contract_text.specs.Verdict.{verdict}

-- the limits of the tokens are limits of the operations
abbrev pub LimitsBoundOperations : Type 0
LimitsBoundOperations = (ts : List Placed) (os : List raw.Op) → SpellsContract ts os → IsWithinLimits ts → AreBounded os

-- a verdict is given exactly where the grammar, the limits and the flaws say so
abbrev pub VerdictsAreMeant : Type 0
VerdictsAreMeant = (text : List ℕ) (v : Verdict) → (verdict text ≡ v) ↔ Tells text v

-- 1 to 16 well-formed operations, whose names are names and differ
pub record AreLawfulOps (ops : List Op) : Type 0 where
  pub count : IsUpTo 16 (length ops)
  pub named : All (λ op. IsName op.name) ops
  pub names : AllDiffer (map (λ op. op.name) ops)
  pub fine : All IsWellFormed ops

-- what a contract's text stands for can be the operations of an application
abbrev pub AcceptedContractsAreLawful : Type 0
AcceptedContractsAreLawful = (text : List ℕ) (ops : List Op) → IsContract text ops → AreLawfulOps ops
