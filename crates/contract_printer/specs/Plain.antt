-- The untyped tree that a typed operation stands for, without the bytes of a text: parameters and locals have their names again.
use Rattle.std.specs.Prelude.{ℕ, List, [], ◌∷◌, ◌++◌, map, Option, Some, None, slice_get}
use Rattle.contract_grammar.specs.declared.token.Operator.{Operator}
use Rattle.contract_grammar.specs.declared.token.Operator.TheVariants as sign
use Rattle.contract_grammar.specs.declared.tree.Param.{Param as RawParam}
use Rattle.contract_grammar.specs.declared.tree.ParamKind.{ParamKind as RawKind}
use Rattle.contract_grammar.specs.declared.tree.ParamKind.TheVariants as kind
use Rattle.contract_grammar.specs.Tree as raw
use Rattle.contract_grammar.specs.Tree.{Tree, number, name, negation, binary, Statement, define, assign, demand, choose, again, Statements, nil, then_one}
use Rattle.contract_grammar.specs.Grammar.{head, parameter}
use Rattle.oxii_defs.specs.Syntax.{Name, Operator as Calculation, Add, Sub, Mul, Div, Rem, Comparison, Eq, Ne, Lt, Le, Gt, Ge, Expr, Num, Param, Local, Rec, Calc, Cond, Cmp, And, Or, Not, Stmt, Let, SetLocal, SetRec, Require, If, Repeat, Stmts, Done, Then, ParamKind, RecKind, NumKind, Formal, Op}

abbrev pub plain_operator : Calculation → Operator
plain_operator Add = sign.Plus
plain_operator Sub = sign.Minus
plain_operator Mul = sign.Times
plain_operator Div = sign.Divide
plain_operator Rem = sign.Remainder

abbrev pub plain_comparison : Comparison → Operator
plain_comparison Eq = sign.Equal
plain_comparison Ne = sign.NotEqual
plain_comparison Lt = sign.Less
plain_comparison Le = sign.LessEqual
plain_comparison Gt = sign.Greater
plain_comparison Ge = sign.GreaterEqual

-- the name of a parameter that may be there
abbrev pub formal_name : Option Formal → Name
formal_name None = []
formal_name (Some p) = p.name

-- the name of the parameter at a position
abbrev pub param_name : List Formal → ℕ → Name
param_name params i = formal_name (slice_get params i)

-- a name that may be there
abbrev pub known_name : Option Name → Name
known_name None = []
known_name (Some x) = x

-- the name of the visible local of a slot
abbrev pub local_name : List Name → ℕ → Name
local_name locals i = known_name (slice_get locals i)

module _ (params : List Formal) where
  unfoldable pub plain_expr : List Name → Expr → Tree
  plain_expr locals (Num n) = number 0 n
  plain_expr locals (Param i) = name 0 0 (param_name params i)
  plain_expr locals (Local i) = name 0 0 (local_name locals i)
  plain_expr locals (Rec i) = name 0 0 (param_name params i)
  plain_expr locals (Calc op a b) = binary 0 (plain_operator op) (plain_expr locals a) (plain_expr locals b)

  unfoldable pub plain_cond : List Name → Cond → Tree
  plain_cond locals (Cmp op a b) = binary 0 (plain_comparison op) (plain_expr locals a) (plain_expr locals b)
  plain_cond locals (And p q) = binary 0 sign.And (plain_cond locals p) (plain_cond locals q)
  plain_cond locals (Or p q) = binary 0 sign.Or (plain_cond locals p) (plain_cond locals q)
  plain_cond locals (Not p) = negation 0 (plain_cond locals p)

-- the locals that are visible after a statement
abbrev pub visible_after : List Name → Stmt → List Name
visible_after locals (Let slot x e) = locals ++ x ∷ []
visible_after locals _ = locals

-- a statement before those of a block
abbrev pub ahead : Statement → Statements → Statements
ahead s nil = then_one nil s
ahead s (then_one ss t) = then_one (ahead s ss) t

module _ (params : List Formal) where
  unfoldable mutual
    pub plain_stmt : List Name → Stmt → Statement
    plain_stmt locals (Let slot x e) = define 0 x (plain_expr params locals e)
    plain_stmt locals (SetLocal i e) = assign 0 (local_name locals i) (plain_expr params locals e)
    plain_stmt locals (SetRec i e) = assign 0 (param_name params i) (plain_expr params locals e)
    plain_stmt locals (Require p) = demand (plain_cond params locals p)
    plain_stmt locals (If p first second) = choose (plain_cond params locals p) (plain_all locals first) (plain_all locals second)
    plain_stmt locals (Repeat count body) = again count (plain_all locals body)

    -- the statements of a block: each sees the locals made before it
    pub plain_all : List Name → Stmts → Statements
    plain_all locals Done = nil
    plain_all locals (Then s rest) = ahead (plain_stmt locals s) (plain_all (visible_after locals s) rest)

abbrev pub plain_kind : ParamKind → RawKind
plain_kind RecKind = kind.Record
plain_kind NumKind = kind.Number

abbrev pub plain_param : Formal → RawParam
plain_param p = parameter 0 p.name (plain_kind p.kind)

-- an operation
abbrev pub plain_op : Op → raw.Op
plain_op o = record { head = head 0 o.name (map plain_param o.params); body = plain_all o.params [] o.body }
