-- The reading of a text as a total function of its bytes.
use Rattle.std.specs.Prelude.{ℕ, ◌&&◌, ◌||◌, Bool, false, List, [], ◌∷◌, Option, Some, None, length, nat_le, if◌then◌else◌}
use Rattle.contract_grammar.specs.declared.token.Placed.{Placed}
use Rattle.contract_grammar.specs.Tree.{Op}
use Rattle.contract_grammar.specs.Lexer.{tokens}
use Rattle.contract_grammar.specs.Grammar.{level, SpellsContract}
use Rattle.contract_grammar.specs.Expressions.{left, part, Partial, want}
use Rattle.contract_grammar.specs.Modes.{Mode, in_expr, At, advance, begin, at_end}
use Rattle.contract_grammar.specs.Limits.{is_chain, chain_length, Tally, no_tally, tallied, passes, IsWithinLimits}
use Rattle.contract_grammar.specs.Faults.{IsSyntaxFault, IsLimitFault}

-- the operations, or the first fault with its byte
pub data Reading : Type 0 where
  reads : List Op → Reading
  syntax_at : ℕ → Reading
  limit_at : ℕ → Reading

-- the operator that was just read is the 33rd of its chain
abbrev pub is_chain_end : Partial → Bool
is_chain_end (want (part (left op e) ∷ st)) = is_chain op && nat_le 32 (chain_length (level op) e)
is_chain_end _ = false

-- the same in every mode
abbrev pub ends_chain : Mode → Bool
ends_chain (in_expr u s) = is_chain_end s
ends_chain _ = false

-- the end of a text of this length
abbrev pub ending : ℕ → Option (List Op) → Reading
ending len None = syntax_at len
ending len (Some os) = reads os

-- where a token at this byte leads, and whether it passes a limit
abbrev pub going : Option At → ℕ → Bool → (At → Reading) → Reading
going None at over goes_on = syntax_at at
going (Some z) at over goes_on = if over || ends_chain z.mode then limit_at at else goes_on z

-- the reading of what is left, from this state and this tally on
unfoldable pub read_from : At → Tally → ℕ → List Placed → Reading
read_from z c len [] = ending len (at_end z)
read_from z c len (k ∷ ks) = going (advance z k) k.span.start (passes c k) (λ y. read_from y (tallied c k) len ks)

-- the reading of a text
unfoldable pub reading : List ℕ → Reading
reading text = read_from begin no_tally (length text) (tokens text)

-- what a reading means
abbrev pub ReadingMeans : List Placed → ℕ → Reading → Type 0
ReadingMeans ts len (reads os) = SpellsContract ts os × IsWithinLimits ts
ReadingMeans ts len (syntax_at at) = IsSyntaxFault ts len at
ReadingMeans ts len (limit_at at) = IsLimitFault ts at
