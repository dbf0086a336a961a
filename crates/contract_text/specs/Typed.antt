-- The operation that a tree stands for, which counts where the tree has no flaws.
use Rattle.std.specs.Prelude.{ℕ, List, [], ◌∷◌, ◌++◌, length, map, Option, Some, None}
use Rattle.contract_grammar.specs.declared.token.Operator.{Operator}
use Rattle.contract_grammar.specs.declared.token.Operator.TheVariants.{Or, And, Equal, NotEqual, Less, LessEqual, Greater, GreaterEqual, Plus, Minus, Times, Divide, Remainder}
use Rattle.contract_grammar.specs.declared.tree.ParamKind.{ParamKind}
use Rattle.contract_grammar.specs.declared.tree.ParamKind.TheVariants as kind
use Rattle.contract_grammar.specs.declared.tree.Param.{Param}
use Rattle.contract_grammar.specs.Tree as raw
use Rattle.contract_grammar.specs.Tree.{Tree, number, name, negation, binary, Statement, define, assign, demand, choose, again, Statements, nil, then_one}
use Rattle.oxii_defs.specs.Syntax as meant
use Rattle.contract_text.specs.declared.symbols.Symbol.{Symbol}
use Rattle.contract_text.specs.declared.symbols.Symbol.TheVariants as symbol
use Rattle.contract_text.specs.Symbols.{symbol_of, made}

-- what an unknown name, or an expression of the other kind, stands for where a number or a truth value is wanted: each is a flaw
abbrev pub no_number : meant.Expr
no_number = meant.Num 0

abbrev pub no_truth : meant.Cond
no_truth = meant.Cmp meant.Eq no_number no_number

-- an operator that gives a number
abbrev pub calculation : Operator → Option meant.Operator
calculation Plus = Some meant.Add
calculation Minus = Some meant.Sub
calculation Times = Some meant.Mul
calculation Divide = Some meant.Div
calculation Remainder = Some meant.Rem
calculation _ = None

-- an operator that compares numbers
abbrev pub comparison : Operator → Option meant.Comparison
comparison Equal = Some meant.Eq
comparison NotEqual = Some meant.Ne
comparison Less = Some meant.Lt
comparison LessEqual = Some meant.Le
comparison Greater = Some meant.Gt
comparison GreaterEqual = Some meant.Ge
comparison _ = None

-- a name in an expression
abbrev pub used : Option Symbol → meant.Expr
used None = no_number
used (Some (symbol.Rec i)) = meant.Rec i
used (Some (symbol.Num i)) = meant.Param i
used (Some (symbol.Local i)) = meant.Local i

abbrev pub calculated : Option meant.Operator → meant.Expr → meant.Expr → meant.Expr
calculated None a b = no_number
calculated (Some op) a b = meant.Calc op a b

abbrev pub compared : Option meant.Comparison → meant.Expr → meant.Expr → meant.Cond
compared None a b = no_truth
compared (Some op) a b = meant.Cmp op a b

-- a number
abbrev pub typed_expr : List Param → List (List ℕ) → Tree → meant.Expr
typed_expr params locals (number at n) = meant.Num n
typed_expr params locals (name at own x) = used (symbol_of params locals x)
typed_expr params locals (negation at e) = no_number
typed_expr params locals (binary at op a b) = calculated (calculation op) (typed_expr params locals a) (typed_expr params locals b)

-- what an operator makes of its operands, as truth values and as numbers
abbrev pub combined : Operator → meant.Cond → meant.Cond → meant.Expr → meant.Expr → meant.Cond
combined Or p q a b = meant.Or p q
combined And p q a b = meant.And p q
combined op p q a b = compared (comparison op) a b

-- a truth value
abbrev pub typed_cond : List Param → List (List ℕ) → Tree → meant.Cond
typed_cond params locals (number at n) = no_truth
typed_cond params locals (name at own x) = no_truth
typed_cond params locals (negation at e) = meant.Not (typed_cond params locals e)
typed_cond params locals (binary at op a b) =
    combined op (typed_cond params locals a) (typed_cond params locals b) (typed_expr params locals a) (typed_expr params locals b)

-- an assignment; where the name left of it is unknown or a number parameter, which is a flaw, it stands for one to the first local
abbrev pub assigned : Option Symbol → meant.Expr → meant.Stmt
assigned None e = meant.SetLocal 0 e
assigned (Some (symbol.Rec i)) e = meant.SetRec i e
assigned (Some (symbol.Num i)) e = meant.SetLocal 0 e
assigned (Some (symbol.Local i)) e = meant.SetLocal i e

-- one after another
abbrev pub sequence : List meant.Stmt → meant.Stmts
sequence [] = meant.Done
sequence (s ∷ ss) = meant.Then s (sequence ss)

abbrev mutual
  -- a statement
  pub typed_stmt : List Param → List (List ℕ) → Statement → meant.Stmt
  typed_stmt params locals (define at x e) = meant.Let (length locals) x (typed_expr params locals e)
  typed_stmt params locals (assign at x e) = assigned (symbol_of params locals x) (typed_expr params locals e)
  typed_stmt params locals (demand e) = meant.Require (typed_cond params locals e)
  typed_stmt params locals (choose e b c) = meant.If (typed_cond params locals e) (sequence (typed_all params locals b)) (sequence (typed_all params locals c))
  typed_stmt params locals (again n b) = meant.Repeat n (sequence (typed_all params locals b))

  -- the statements of a block: each sees the locals made before it
  pub typed_all : List Param → List (List ℕ) → Statements → List meant.Stmt
  typed_all params locals nil = []
  typed_all params locals (then_one ss s) = typed_all params locals ss ++ typed_stmt params (locals ++ made ss) s ∷ []

abbrev pub typed_kind : ParamKind → meant.ParamKind
typed_kind kind.Record = meant.RecKind
typed_kind kind.Number = meant.NumKind

-- a parameter
abbrev pub formal : Param → meant.Formal
formal p = record { name = p.name; kind = typed_kind p.kind }

-- an operation
abbrev pub typed_op : raw.Op → meant.Op
typed_op o = record { name = o.head.name; params = map formal o.head.params; body = sequence (typed_all o.head.params [] o.body) }
