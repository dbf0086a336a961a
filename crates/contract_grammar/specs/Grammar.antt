-- The grammar: which tokens spell which tree.
use Rattle.std.specs.Prelude.{◌≢◌, ℕ, suc, ◌==◌, Bool, List, [], ◌∷◌, ◌++◌, if◌then◌else◌}
use Rattle.contract_grammar.specs.declared.token.Mark.{Mark}
use Rattle.contract_grammar.specs.declared.token.Mark.TheVariants.{WordOp, WordLet, WordRequire, WordIf, WordElse, WordRepeat, WordRecord, WordNumber, OpenBlock, CloseBlock, Colon, Comma, Semicolon, Becomes}
use Rattle.contract_grammar.specs.declared.token.Operator.{Operator}
use Rattle.contract_grammar.specs.declared.token.Operator.TheVariants.{Or, And, Equal, NotEqual, Less, LessEqual, Greater, GreaterEqual, Plus, Minus, Times, Divide, Remainder}
use Rattle.contract_grammar.specs.declared.token.Token.{Token}
use Rattle.contract_grammar.specs.declared.token.Token.TheVariants.{Number, Named, Infix, Not, Open, Close, Fixed}
use Rattle.contract_grammar.specs.declared.token.Extent.{Extent}
use Rattle.contract_grammar.specs.declared.token.Placed.{Placed}
use Rattle.contract_grammar.specs.declared.tree.ParamKind.{ParamKind}
use Rattle.contract_grammar.specs.declared.tree.ParamKind.TheVariants as kind
use Rattle.contract_grammar.specs.declared.tree.Param.{Param}
use Rattle.contract_grammar.specs.declared.tree.Head.{Head}
use Rattle.contract_grammar.specs.Tree.{Tree, number, name, negation, binary, first, begun_at, Statement, define, assign, demand, choose, again, Statements, nil, then_one, Op}

-- a token at its position
abbrev pub tok : Extent → Token → Placed
tok w t = record { span = w; token = t }

-- a word or a sign of statements and operations at its position
abbrev pub fixed : Extent → Mark → Placed
fixed w m = tok w (Fixed m)

-- how tightly an operator binds: `or` 0, `and` 1, comparisons 3, sums 4, products 5; `not` has 2, and what is alone 6
abbrev pub level : Operator → ℕ
level Or = 0
level And = 1
level Equal = 3
level NotEqual = 3
level Less = 3
level LessEqual = 3
level Greater = 3
level GreaterEqual = 3
level Plus = 4
level Minus = 4
level Times = 5
level Divide = 5
level Remainder = 5

-- a chain groups from the left: what is left of its last operator is a chain of the same operators; comparisons don't chain
abbrev pub left_level : Operator → ℕ
left_level op = if level op == 3 then 4 else level op

-- expr = conj { "or" conj }   conj = neg { "and" neg }   neg = [ "not" ] cmp   cmp = sum [ ("==" | "!=" | "<" | "<=" | ">" | ">=") sum ]
-- sum = term { ("+" | "-") term }   term = atom { ("*" | "/" | "%") atom }   atom = number | name | "(" expr ")"
pub data Spells : ℕ → List Placed → Tree → Type 0 where
  of_number : {w : Extent} {n : ℕ} → Spells 6 (tok w (Number n) ∷ []) (number w.start n)
  of_name : {w : Extent} {x : List ℕ} {long : Bool} → Spells 6 (tok w (Named x long) ∷ []) (name w.start w.start x)
  of_group : {w : Extent} {ts : List Placed} {e : Tree} (z : Extent) → Spells 0 ts e → Spells 6 (tok w Open ∷ (ts ++ tok z Close ∷ [])) (begun_at w.start e)
  of_not : {w : Extent} {ts : List Placed} {e : Tree} → Spells 3 ts e → Spells 2 (tok w Not ∷ ts) (negation w.start e)
  of_binary : {xs ys : List Placed} {a b : Tree} (w : Extent) (op : Operator) → Spells (left_level op) xs a → Spells (suc (level op)) ys b
      → Spells (level op) (xs ++ tok w (Infix op) ∷ ys) (binary (first a) op a b)
  of_tighter : {l : ℕ} {ts : List Placed} {e : Tree} → Spells (suc l) ts e → Spells l ts e

-- block = "{" { stmt } "}"
-- stmt  = "let" name "=" expr ";" | name "=" expr ";" | "require" expr ";" | "if" expr block [ "else" block ] | "repeat" number block
mutual
  -- the statements of a block, in order
  pub data SpellsStatements : List Placed → Statements → Type 0 where
    nothing : SpellsStatements [] nil
    more : {xs ys : List Placed} {ss : Statements} {s : Statement} → SpellsStatements xs ss → SpellsStatement ys s → SpellsStatements (xs ++ ys) (then_one ss s)

  -- a statement
  pub data SpellsStatement : List Placed → Statement → Type 0 where
    of_let : {w v u : Extent} {x : List ℕ} {long : Bool} {ts : List Placed} {e : Tree} (z : Extent) → Spells 0 ts e
        → SpellsStatement (fixed w WordLet ∷ tok v (Named x long) ∷ fixed u Becomes ∷ (ts ++ fixed z Semicolon ∷ [])) (define v.start x e)
    of_assign : {v u : Extent} {x : List ℕ} {long : Bool} {ts : List Placed} {e : Tree} (z : Extent) → Spells 0 ts e
        → SpellsStatement (tok v (Named x long) ∷ fixed u Becomes ∷ (ts ++ fixed z Semicolon ∷ [])) (assign v.start x e)
    of_require : {w : Extent} {ts : List Placed} {e : Tree} (z : Extent) → Spells 0 ts e → SpellsStatement (fixed w WordRequire ∷ (ts ++ fixed z Semicolon ∷ [])) (demand e)
    of_if : {w : Extent} {ts bs : List Placed} {e : Tree} {b : Statements} → Spells 0 ts e → SpellsBlock bs b → SpellsStatement (fixed w WordIf ∷ (ts ++ bs)) (choose e b nil)
    of_else : {w : Extent} {ts bs cs : List Placed} {e : Tree} {b c : Statements} (v : Extent) → Spells 0 ts e → SpellsBlock bs b → SpellsBlock cs c
        → SpellsStatement (fixed w WordIf ∷ (ts ++ (bs ++ fixed v WordElse ∷ cs))) (choose e b c)
    of_repeat : {w v : Extent} {n : ℕ} {bs : List Placed} {b : Statements} → SpellsBlock bs b → SpellsStatement (fixed w WordRepeat ∷ tok v (Number n) ∷ bs) (again n b)

  -- a block
  pub data SpellsBlock : List Placed → Statements → Type 0 where
    block : {w : Extent} {xs : List Placed} {ss : Statements} (z : Extent) → SpellsStatements xs ss → SpellsBlock (fixed w OpenBlock ∷ (xs ++ fixed z CloseBlock ∷ [])) ss

-- a parameter by its byte, its name and its kind
abbrev pub parameter : ℕ → List ℕ → ParamKind → Param
parameter at x k = record { at = at; name = x; kind = k }

-- param = name ":" ( "record" | "number" )
pub data SpellsParam : List Placed → Param → Type 0 where
  of_record : {w v u : Extent} {x : List ℕ} {long : Bool} → SpellsParam (tok w (Named x long) ∷ fixed v Colon ∷ fixed u WordRecord ∷ []) (parameter w.start x kind.Record)
  of_amount : {w v u : Extent} {x : List ℕ} {long : Bool} → SpellsParam (tok w (Named x long) ∷ fixed v Colon ∷ fixed u WordNumber ∷ []) (parameter w.start x kind.Number)

-- param { "," param }
pub data SpellsParams : List Placed → List Param → Type 0 where
  one_param : {xs : List Placed} {q : Param} → SpellsParam xs q → SpellsParams xs (q ∷ [])
  more_params : {xs ys : List Placed} {ps : List Param} {q : Param} (v : Extent) → SpellsParams xs ps → SpellsParam ys q → SpellsParams (xs ++ fixed v Comma ∷ ys) (ps ++ q ∷ [])

-- a head by the byte of its name, its name and its parameters
abbrev pub head : ℕ → List ℕ → List Param → Head
head at x ps = record { at = at; name = x; params = ps }

-- what is before an operation's block: "op" name "(" [ param { "," param } ] ")"
pub data SpellsHead : List Placed → Head → Type 0 where
  without : {w v u z : Extent} {x : List ℕ} {long : Bool} → SpellsHead (fixed w WordOp ∷ tok v (Named x long) ∷ tok u Open ∷ tok z Close ∷ []) (head v.start x [])
  with : {w v u : Extent} {x : List ℕ} {long : Bool} {xs : List Placed} {ps : List Param} (z : Extent) → SpellsParams xs ps
      → SpellsHead (fixed w WordOp ∷ tok v (Named x long) ∷ tok u Open ∷ (xs ++ tok z Close ∷ [])) (head v.start x ps)

-- op = head block
pub data SpellsOp : List Placed → Op → Type 0 where
  of_op : {hs bs : List Placed} {h : Head} {b : Statements} → SpellsHead hs h → SpellsBlock bs b → SpellsOp (hs ++ bs) (record { head = h; body = b })

-- operations, one after the other
pub data SpellsOps : List Placed → List Op → Type 0 where
  no_ops : SpellsOps [] []
  more_ops : {xs ys : List Placed} {os : List Op} {o : Op} → SpellsOps xs os → SpellsOp ys o → SpellsOps (xs ++ ys) (os ++ o ∷ [])

-- contract = op { op }
abbrev pub SpellsContract : List Placed → List Op → Type 0
SpellsContract ts os = SpellsOps ts os × (os ≢ [])

-- the sentences, and what can still become one
abbrev pub Sentence : List Placed → Type 0
Sentence ts = (os : List Op) × SpellsContract ts os

-- some tokens make a sentence of these
abbrev pub CanGoOn : List Placed → Type 0
CanGoOn ts = (rest : List Placed) × Sentence (ts ++ rest)
