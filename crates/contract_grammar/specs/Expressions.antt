-- How a reader goes through an expression: what is open, and what the next token makes of it.
use Rattle.std.specs.Prelude.{ℕ, List, [], ◌∷◌, Option, Some, None, Bool, true, nat_le, nat_lt, option_and_then, if◌then◌else◌}
use Rattle.contract_grammar.specs.declared.token.Operator.{Operator}
use Rattle.contract_grammar.specs.declared.token.Token.{Token}
use Rattle.contract_grammar.specs.declared.token.Token.TheVariants.{Number, Named, Infix, Not, Open, Close}
use Rattle.contract_grammar.specs.declared.token.Placed.{Placed}
use Rattle.contract_grammar.specs.Tree.{Tree, number, name, negation, binary, first, begun_at}
use Rattle.contract_grammar.specs.Grammar.{level, left_level}

-- what waits for an operand on its right: an operator that has its left side, or a `not`
pub data Part : Type 0 where
  left : Operator → Tree → Part
  negate : ℕ → Part

-- what is open: a parenthesis, by its byte, or such a part
pub data Pending : Type 0 where
  group : ℕ → Pending
  part : Part → Pending

-- an operand is expected, or there is one
pub data Partial : Type 0 where
  want : List Pending → Partial
  have : Tree → List Pending → Partial

-- how tightly a part binds
abbrev pub level_of : Part → ℕ
level_of (left op a) = level op
level_of (negate at) = 2

-- a part with its operand
abbrev pub filled : Part → Tree → Tree
filled (left op a) e = binary (first a) op a e
filled (negate at) e = negation at e

-- the parts that bind at least as tightly take the operand
abbrev pub folded : ℕ → Tree → List Pending → Partial
folded l e [] = have e []
folded l e (group at ∷ st) = have e (group at ∷ st)
folded l e (part d ∷ st) = if nat_le l (level_of d) then folded l (filled d e) st else have e (part d ∷ st)

-- what is on top lets an operand of this level be there
abbrev pub fits : ℕ → List Pending → Bool
fits l [] = true
fits l (group at ∷ st) = true
fits l (part d ∷ st) = nat_lt (level_of d) l

-- a part waits for its operand, where it can be
abbrev pub pushed : Part → List Pending → Option Partial
pushed d st = if fits (level_of d) st then Some (want (part d ∷ st)) else None

-- an operator takes its left side
abbrev pub on_infix : Operator → Partial → Option Partial
on_infix op (want st) = None
on_infix op (have e st) = pushed (left op e) st

-- a parenthesis closes the one on top
abbrev pub on_close : Partial → Option Partial
on_close (want st) = None
on_close (have e []) = None
on_close (have e (group at ∷ st)) = Some (have (begun_at at e) st)
on_close (have e (part d ∷ st)) = None

-- a token where an operand is expected
abbrev pub on_want : ℕ → Token → List Pending → Option Partial
on_want at (Number n) st = Some (have (number at n) st)
on_want at (Named x long) st = Some (have (name at at x) st)
on_want at Open st = Some (want (group at ∷ st))
on_want at Not st = pushed (negate at) st
on_want at _ st = None

-- a token where there is an operand
abbrev pub on_have : Token → Tree → List Pending → Option Partial
on_have (Infix op) e st = on_infix op (folded (left_level op) e st)
on_have Close e st = on_close (folded 0 e st)
on_have _ e st = None

-- the next token, or none where it can't be there
unfoldable pub taken : Partial → ℕ → Token → Option Partial
taken (want st) at t = on_want at t st
taken (have e st) at t = on_have t e st

-- the tree at the end, if the expression can end here
abbrev pub tree_at_end : Partial → Option Tree
tree_at_end (want st) = None
tree_at_end (have e []) = Some e
tree_at_end (have e (f ∷ st)) = None

-- the tree of an expression that ends here
unfoldable pub ended : Partial → Option Tree
ended (want st) = None
ended (have e st) = tree_at_end (folded 0 e st)

-- the same after some tokens
unfoldable pub after : Partial → List Placed → Option Partial
after s [] = Some s
after s (k ∷ ks) = option_and_then (λ s'. after s' ks) (taken s k.span.start k.token)
