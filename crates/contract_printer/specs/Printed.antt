-- The tokens of a tree: parentheses only where the grammar needs them, and `else` only before a block that isn't empty.
use Rattle.std.specs.Prelude.{ℕ, suc, Bool, true, false, List, [], ◌∷◌, ◌++◌, nat_lt}
use Rattle.contract_grammar.specs.declared.token.Mark.{Mark}
use Rattle.contract_grammar.specs.declared.token.Mark.TheVariants.{WordOp, WordLet, WordRequire, WordIf, WordElse, WordRepeat, WordRecord, WordNumber, OpenBlock, CloseBlock, Colon, Comma, Semicolon, Becomes}
use Rattle.contract_grammar.specs.declared.token.Token.{Token}
use Rattle.contract_grammar.specs.declared.token.Token.TheVariants.{Number, Named, Infix, Not, Open, Close, Fixed}
use Rattle.contract_grammar.specs.declared.tree.Head.{Head}
use Rattle.contract_grammar.specs.declared.tree.Param.{Param}
use Rattle.contract_grammar.specs.declared.tree.ParamKind.{ParamKind}
use Rattle.contract_grammar.specs.declared.tree.ParamKind.TheVariants as kind
use Rattle.contract_grammar.specs.Tree.{Tree, number, name, negation, binary, Statement, define, assign, demand, choose, again, Statements, nil, then_one, Op}
use Rattle.contract_grammar.specs.Grammar.{level, left_level}

-- in parentheses, or as they are
abbrev pub grouped : Bool → List Token → List Token
grouped true ts = Open ∷ (ts ++ Close ∷ [])
grouped false ts = ts

-- an expression that is where this level is expected
abbrev pub printed : ℕ → Tree → List Token
printed l (number at n) = Number n ∷ []
printed l (name at own x) = Named x false ∷ []
printed l (negation at e) = grouped (nat_lt 2 l) (Not ∷ printed 3 e)
printed l (binary at op a b) = grouped (nat_lt (level op) l) (printed (left_level op) a ++ Infix op ∷ printed (suc (level op)) b)

-- an expression and its semicolon
abbrev pub ended : Tree → List Token
ended e = printed 0 e ++ Fixed Semicolon ∷ []

-- in braces
abbrev pub braced : List Token → List Token
braced ts = Fixed OpenBlock ∷ (ts ++ Fixed CloseBlock ∷ [])

abbrev mutual
  -- a statement
  pub printed_stmt : Statement → List Token
  printed_stmt (define at x e) = Fixed WordLet ∷ Named x false ∷ Fixed Becomes ∷ ended e
  printed_stmt (assign at x e) = Named x false ∷ Fixed Becomes ∷ ended e
  printed_stmt (demand e) = Fixed WordRequire ∷ ended e
  printed_stmt (choose e b c) = Fixed WordIf ∷ (printed 0 e ++ (braced (printed_all b) ++ printed_else c))
  printed_stmt (again n b) = Fixed WordRepeat ∷ Number n ∷ braced (printed_all b)

  -- the statements of a block
  pub printed_all : Statements → List Token
  printed_all nil = []
  printed_all (then_one ss s) = printed_all ss ++ printed_stmt s

  -- the second block of an `if`
  pub printed_else : Statements → List Token
  printed_else nil = []
  printed_else (then_one ss s) = Fixed WordElse ∷ braced (printed_all ss ++ printed_stmt s)

abbrev pub kind_word : ParamKind → Mark
kind_word kind.Record = WordRecord
kind_word kind.Number = WordNumber

-- a parameter
abbrev pub printed_param : Param → List Token
printed_param p = Named p.name false ∷ Fixed Colon ∷ Fixed (kind_word p.kind) ∷ []

-- further parameters
abbrev pub printed_more : List Param → List Token
printed_more [] = []
printed_more (p ∷ ps) = Fixed Comma ∷ (printed_param p ++ printed_more ps)

abbrev pub printed_params : List Param → List Token
printed_params [] = []
printed_params (p ∷ ps) = printed_param p ++ printed_more ps

abbrev pub printed_head : Head → List Token
printed_head h = Fixed WordOp ∷ Named h.name false ∷ Open ∷ (printed_params h.params ++ Close ∷ [])

-- an operation
abbrev pub printed_op : Op → List Token
printed_op o = printed_head o.head ++ braced (printed_all o.body)

-- operations, one after the other
abbrev pub printed_ops : List Op → List Token
printed_ops [] = []
printed_ops (o ∷ os) = printed_op o ++ printed_ops os
