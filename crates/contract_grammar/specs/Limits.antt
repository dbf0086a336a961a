-- The limits: what is counted over the tokens so far, and which token passes a limit.
use Rattle.std.specs.Prelude.{◌≡◌, ◌⊎◌, ℕ, ◌+◌, ◌-◌, ◌*◌, ◌<◌, ◌≤◌, ◌==◌, ◌||◌, Bool, true, false, List, [], ◌∷◌, ◌++◌, length, fold, nat_le, nat_lt, if◌then◌else◌}
use Rattle.txn_types.specs.Values.{max_value, max_turns}
use Rattle.contract_grammar.specs.declared.token.Mark.TheVariants.{WordOp, WordLet, WordRequire, WordIf, WordRepeat, OpenBlock, CloseBlock, Comma, Becomes}
use Rattle.contract_grammar.specs.declared.token.Operator.{Operator}
use Rattle.contract_grammar.specs.declared.token.Token.{Token}
use Rattle.contract_grammar.specs.declared.token.Token.TheVariants.{Number, Named, Infix, Not, Open, Close, Fixed}
use Rattle.contract_grammar.specs.declared.token.Placed.{Placed}
use Rattle.contract_grammar.specs.Tree.{Tree, number, name, negation, binary}
use Rattle.contract_grammar.specs.Grammar.{level, Spells}

-- what is directly before, where a limit depends on it: `repeat`, the count of a `repeat`, `let`, `,` or another token
pub data Previous : Type 0 where
  plain : Previous
  repeat_word : Previous
  count : ℕ → Previous
  let_word : Previous
  comma : Previous

-- of an open block: the product of the enclosing repeat counts, and the locals visible in it
pub record Scope : Type 0 where
  pub product : ℕ
  pub locals : ℕ

-- what is counted: operations, the byte where the last one begins and its commas, open parentheses, and open blocks from the innermost on
pub record Tally : Type 0 where
  pub ops : ℕ
  pub begun : ℕ
  pub commas : ℕ
  pub parentheses : ℕ
  pub scopes : List Scope
  pub previous : Previous

-- one more operation at each `op`
abbrev pub ops_after : ℕ → Token → ℕ
ops_after n (Fixed WordOp) = n + 1
ops_after n _ = n

-- where the last `op` begins
abbrev pub begun_after : ℕ → ℕ → Token → ℕ
begun_after b at (Fixed WordOp) = at
begun_after b at _ = b

-- one more comma, from the last `op` on
abbrev pub commas_after : ℕ → Token → ℕ
commas_after n (Fixed WordOp) = 0
commas_after n (Fixed Comma) = n + 1
commas_after n _ = n

-- one more or one less open parenthesis
abbrev pub parentheses_after : ℕ → Token → ℕ
parentheses_after n Open = n + 1
parentheses_after n Close = n - 1
parentheses_after n _ = n

-- a number after `repeat` is its count
abbrev pub previous_after : Previous → Token → Previous
previous_after b (Fixed WordRepeat) = repeat_word
previous_after b (Fixed WordLet) = let_word
previous_after b (Fixed Comma) = comma
previous_after repeat_word (Number n) = count n
previous_after b _ = plain

-- how often a block runs that begins here
abbrev pub factor : Previous → ℕ
factor (count n) = n
factor _ = 1

-- the product of the counts around this position
abbrev pub product_in : List Scope → ℕ
product_in [] = 1
product_in (s ∷ scopes) = s.product

-- the locals that are visible here
abbrev pub locals_in : List Scope → ℕ
locals_in [] = 0
locals_in (s ∷ scopes) = s.locals

-- one more local of the innermost block
abbrev pub with_local : List Scope → List Scope
with_local [] = []
with_local (s ∷ scopes) = record { product = s.product; locals = s.locals + 1 } ∷ scopes

-- the blocks around the innermost one
abbrev pub without_first : List Scope → List Scope
without_first [] = []
without_first (s ∷ scopes) = scopes

-- a block inherits locals and counts, and its own locals end with it
abbrev pub scopes_after : Previous → List Scope → Token → List Scope
scopes_after b scopes (Fixed OpenBlock) = record { product = factor b * product_in scopes; locals = locals_in scopes } ∷ scopes
scopes_after b scopes (Fixed CloseBlock) = without_first scopes
scopes_after b scopes (Fixed WordLet) = with_local scopes
scopes_after b scopes _ = scopes

-- one token more
unfoldable pub tallied : Tally → Placed → Tally
tallied c k = record {
  ops = ops_after c.ops k.token;
  begun = begun_after c.begun k.span.start k.token;
  commas = commas_after c.commas k.token;
  parentheses = parentheses_after c.parentheses k.token;
  scopes = scopes_after c.previous c.scopes k.token;
  previous = previous_after c.previous k.token;
}

-- over no tokens
abbrev pub no_tally : Tally
no_tally = record { ops = 0; begun = 0; commas = 0; parentheses = 0; scopes = []; previous = plain }

-- what is counted over some tokens
abbrev pub tally : List Placed → Tally
tally ts = fold tallied no_tally ts

-- a number above 2^62 - 1
abbrev pub is_large : Token → Bool
is_large (Number n) = nat_lt max_value n
is_large _ = false

-- a name longer than 32 bytes
abbrev pub is_long_name : Token → Bool
is_long_name (Named x long) = long
is_long_name _ = false

-- a repeat count outside 1 to 64, or whose product with the enclosing counts is above 1,024
abbrev pub is_bad_count : Previous → List Scope → Token → Bool
is_bad_count repeat_word scopes (Number n) = nat_lt n 1 || (nat_lt 64 n || nat_lt max_turns (n * product_in scopes))
is_bad_count _ scopes _ = false

-- the `(` that is the 33rd open one, and the `{` that is the 33rd open one
abbrev pub is_deep : ℕ → List Scope → Token → Bool
is_deep parentheses scopes Open = nat_le 32 parentheses
is_deep parentheses scopes (Fixed OpenBlock) = nat_le 32 (length scopes)
is_deep parentheses scopes _ = false

-- the name of the 17th parameter, and the name of a `let` that would be the 33rd visible local
abbrev pub is_further_name : Previous → ℕ → List Scope → Token → Bool
is_further_name comma commas scopes (Named x long) = nat_le 16 commas
is_further_name let_word commas scopes (Named x long) = nat_lt 32 (locals_in scopes)
is_further_name _ commas scopes _ = false

-- the 17th `op`
abbrev pub is_further_op : ℕ → Token → Bool
is_further_op ops (Fixed WordOp) = nat_le 16 ops
is_further_op ops _ = false

-- a token that ends more than 4,096 bytes after the first byte of its operation
abbrev pub is_far : ℕ → Placed → Bool
is_far begun k = nat_lt (begun_after begun k.span.start k.token + 4096) k.span.end

-- the token passes one of these limits, after tokens over which this was counted
unfoldable pub passes : Tally → Placed → Bool
passes c k = is_large k.token || (is_long_name k.token || (is_bad_count c.previous c.scopes k.token || (is_deep c.parentheses c.scopes k.token
    || (is_further_name c.previous c.commas c.scopes k.token || (is_further_op c.ops k.token || is_far c.begun k)))))

-- what binds an operand of this level no tighter, and is before a whole one: a parenthesis, a looser operator, what an expression follows
pub data Looser : ℕ → Token → Type 0 where
  behind_open : {l : ℕ} → Looser l Open
  behind_infix : {l : ℕ} {op : Operator} → level op < l → Looser l (Infix op)
  behind_not : {l : ℕ} → 2 < l → Looser l Not
  behind_becomes : {l : ℕ} → Looser l (Fixed Becomes)
  behind_require : {l : ℕ} → Looser l (Fixed WordRequire)
  behind_if : {l : ℕ} → Looser l (Fixed WordIf)

-- the whole operand of this level that ends the tokens
pub record LastOperand (p : List Placed) (l : ℕ) (e : Tree) : Type 0 where
  pub before : List Placed
  pub token : Placed
  pub own : List Placed
  pub parts : p ≡ before ++ token ∷ own
  pub looser : Looser l token.token
  pub spells : Spells l own e

-- comparisons make no chain
abbrev pub is_chain : Operator → Bool
is_chain op = if level op == 3 then false else true

-- how many operators of a level a chain has, from its last one to the left, through parentheses
abbrev pub chain_length : ℕ → Tree → ℕ
chain_length l (number at n) = 0
chain_length l (name at own x) = 0
chain_length l (negation at e) = 0
chain_length l (binary at op a b) = if level op == l then chain_length l a + 1 else 0

-- the token is the 33rd operator of its chain
pub record IsChainEnd (p : List Placed) (k : Placed) : Type 0 where
  pub operator : Operator
  pub is : k.token ≡ Infix operator
  pub chains : is_chain operator ≡ true
  pub operand : Tree
  pub stands : LastOperand p (level operator) operand
  pub long : 32 ≤ chain_length (level operator) operand

-- the token passes a limit, after these tokens
abbrev pub IsLimit : List Placed → Placed → Type 0
IsLimit p k = (passes (tally p) k ≡ true) ⊎ IsChainEnd p k

-- no token passes a limit
abbrev pub IsWithinLimits : List Placed → Type 0
IsWithinLimits ts = (p : List Placed) (k : Placed) (rest : List Placed) → ts ≡ p ++ k ∷ rest → IsLimit p k → ⊥
