-- What the reader counts, without where it lies in memory: the innermost block comes first.
use Rattle.std.specs.Prelude.{ℕ, ◌*◌, ◌≤◌, List, [], ◌∷◌, map, reverse}
use Rattle.txn_types.specs.Values.{max_turns}
use Rattle.contract_reader.specs.declared.counts.Previous.{Previous}
use Rattle.contract_reader.specs.declared.counts.Previous.TheVariants as previous
use Rattle.contract_reader.specs.declared.counts.Scope.{Scope}
use Rattle.contract_reader.specs.declared.counts.Counts.{Counts}
use Rattle.contract_grammar.specs.Limits as limits

-- what is directly before
abbrev pub previous_of : Previous → limits.Previous
previous_of previous.Plain = limits.plain
previous_of previous.RepeatWord = limits.repeat_word
previous_of (previous.Count n) = limits.count n
previous_of previous.LetWord = limits.let_word
previous_of previous.Comma = limits.comma

-- an open block
abbrev pub scope_of : Scope → limits.Scope
scope_of s = record { product = s.product; locals = s.locals }

-- the open blocks
abbrev pub scopes_of : List Scope → List limits.Scope
scopes_of ss = map scope_of (reverse ss)

-- all that is counted
abbrev pub tally_of : Counts → limits.Tally
tally_of c = record {
  ops = c.ops;
  begun = c.begun;
  commas = c.commas;
  parentheses = c.parentheses;
  scopes = scopes_of c.scopes.items;
  previous = previous_of c.previous;
}

-- in each open block
abbrev pub AreSmallScopes : List limits.Scope → ℕ → Type 0
AreSmallScopes [] n = Unit {0}
AreSmallScopes (s ∷ scopes) n = (s.product ≤ max_turns) × (s.locals ≤ n) × AreSmallScopes scopes n

-- no count is above the number of tokens so far, and no product above 1,024
pub record AreSmall (c : limits.Tally) (n : ℕ) : Type 0 where
  pub ops : c.ops ≤ n
  pub commas : c.commas ≤ n
  pub parentheses : c.parentheses ≤ n
  pub scopes : AreSmallScopes c.scopes n
  pub product : limits.factor c.previous * limits.product_in c.scopes ≤ max_turns
