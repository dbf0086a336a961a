-- What a contract's text comes to: its operations, or its first fault, by the grammar, the limits and the flaws alone.
use Rattle.std.specs.Prelude.{◌↔◌, ℕ, List, length}
use Rattle.oxii_defs.specs.Syntax.{Op}
use Rattle.contract_grammar.specs.Tree as raw
use Rattle.contract_grammar.specs.Lexer.{tokens}
use Rattle.contract_grammar.specs.Grammar.{SpellsContract}
use Rattle.contract_grammar.specs.Limits.{IsWithinLimits}
use Rattle.contract_grammar.specs.Faults.{IsSyntaxFault, IsLimitFault}
use Rattle.contract_text.specs.declared.flaws.FlawKind.TheVariants as kind
use Rattle.contract_text.specs.declared.flaws.Flaw.{Flaw}
use Rattle.contract_text.specs.declared.faults.TextFault.{TextFault}
use Rattle.contract_text.specs.declared.faults.TextFault.TheVariants as fault
use Rattle.contract_text.specs.Flaws.{flaw, IsFirst, flaws}
use Rattle.contract_text.specs.TextMeaning.{IsContract}

-- the text spells operations within the limits, and this is the first of their flaws
pub record HasFlaw (text : List ℕ) (f : Flaw) : Type 0 where
  pub operations : List raw.Op
  pub spelled : SpellsContract (tokens text) operations
  pub within : IsWithinLimits (tokens text)
  pub first : IsFirst f (flaws operations)

-- the fault of a text that comes first
abbrev pub HasTextFault : List ℕ → TextFault → Type 0
HasTextFault text (fault.Syntax at) = IsSyntaxFault (tokens text) (length text) at
HasTextFault text (fault.UnknownName at) = HasFlaw text (flaw at kind.UnknownName)
HasTextFault text (fault.Kind at) = HasFlaw text (flaw at kind.Kind)
HasTextFault text (fault.Limit at) = IsLimitFault (tokens text) at
HasTextFault text (fault.Double at) = HasFlaw text (flaw at kind.Double)
HasTextFault text fault.OutOfMemory = Unit {0}

-- two texts stand for the same operations
abbrev pub AreOneContract : List ℕ → List ℕ → Type 0
AreOneContract text other = (ops : List Op) → IsContract text ops ↔ IsContract other ops

-- the operations, or the first fault
pub data Verdict : Type 0 where
  accepted : List Op → Verdict
  syntax_fault : ℕ → Verdict
  limit_fault : ℕ → Verdict
  flawed : Flaw → Verdict

-- what a verdict says of a text: the grammar, the limits and the flaws alone decide whether it is so
abbrev pub Tells : List ℕ → Verdict → Type 0
Tells text (accepted ops) = IsContract text ops
Tells text (syntax_fault at) = IsSyntaxFault (tokens text) (length text) at
Tells text (limit_fault at) = IsLimitFault (tokens text) at
Tells text (flawed f) = HasFlaw text f

-- what each text comes to
abbrev pub Judge : Type 0
Judge = List ℕ → Verdict

-- of each text it says what is so
abbrev pub IsJudge : Judge → Type 0
IsJudge judge = (text : List ℕ) → Tells text (judge text)
