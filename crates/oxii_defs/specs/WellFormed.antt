-- Operations that the reader of contracts can give, and transactions that fit one.
use Rattle.std.specs.Prelude.{◌≡◌, ◌≤◌, ◌<◌, ℕ, ◌*◌, List, [], ◌∷◌, ◌++◌, length, map, Some, slice_get, Contains}
use Rattle.txn_types.specs.declared.txn.Arg.{Arg}
use Rattle.txn_types.specs.declared.txn.Arg.TheVariants as arg
use Rattle.txn_types.specs.Values.{max_value, max_turns}
use Rattle.oxii_defs.specs.Syntax.{Name, Expr, Num, Param, Local, Rec, Calc, Cond, Cmp, And, Or, Not, Stmt, Let, SetLocal, SetRec, Require, If, Repeat, Stmts, Done, Then, ParamKind, RecKind, NumKind, Formal, Op}
use Rattle.oxii_defs.specs.NameLists.{AllDiffer}

-- the parameters, the names of the visible locals, the oldest first, and the product of the enclosing repeat counts
pub record Scope : Type 0 where
  pub params : List Formal
  pub visible : List Name
  pub turns : ℕ

-- the parameter at a position has this kind
abbrev pub HasKind : List Formal → ℕ → ParamKind → Type 0
HasKind params i kind = slice_get (map (λ p. p.kind) params) i ≡ Some kind

abbrev pub IsFineExpr : Scope → Expr → Type 0
IsFineExpr scope (Num n) = n ≤ max_value
IsFineExpr scope (Param i) = HasKind scope.params i NumKind
IsFineExpr scope (Local i) = i < length scope.visible
IsFineExpr scope (Rec i) = HasKind scope.params i RecKind
IsFineExpr scope (Calc op a b) = IsFineExpr scope a × IsFineExpr scope b

abbrev pub IsFineCond : Scope → Cond → Type 0
IsFineCond scope (Cmp op a b) = IsFineExpr scope a × IsFineExpr scope b
IsFineCond scope (And p q) = IsFineCond scope p × IsFineCond scope q
IsFineCond scope (Or p q) = IsFineCond scope p × IsFineCond scope q
IsFineCond scope (Not p) = IsFineCond scope p

-- a name that is free for a new local
abbrev pub IsNew : Scope → Name → Type 0
IsNew scope name = (¬ Contains (map (λ p. p.name) scope.params) name) × (¬ Contains scope.visible name)

-- what is visible after a statement
abbrev pub scope_after : Scope → Stmt → Scope
scope_after scope (Let slot name e) = record { params = scope.params; visible = scope.visible ++ name ∷ []; turns = scope.turns }
scope_after scope _ = scope

abbrev pub repeated : Scope → ℕ → Scope
repeated scope count = record { params = scope.params; visible = scope.visible; turns = scope.turns * count }

abbrev mutual
  pub IsFine : Scope → Stmt → Type 0
  IsFine scope (Let slot name e) = (slot ≡ length scope.visible) × (slot < 32) × IsNew scope name × IsFineExpr scope e
  IsFine scope (SetLocal i e) = (i < length scope.visible) × IsFineExpr scope e
  IsFine scope (SetRec i e) = HasKind scope.params i RecKind × IsFineExpr scope e
  IsFine scope (Require p) = IsFineCond scope p
  IsFine scope (If p first second) = IsFineCond scope p × AllFine scope first × AllFine scope second
  IsFine scope (Repeat count body) = (0 < count) × (count ≤ 64) × (scope.turns * count ≤ max_turns) × AllFine (repeated scope count) body

  pub AllFine : Scope → Stmts → Type 0
  AllFine scope Done = Unit {0}
  AllFine scope (Then s rest) = IsFine scope s × AllFine (scope_after scope s) rest

abbrev pub start_of : Op → Scope
start_of op = record { params = op.params; visible = []; turns = 1 }

pub record IsWellFormed (op : Op) : Type 0 where
  pub count : length op.params ≤ 16
  pub names : AllDiffer (map (λ p. p.name) op.params)
  pub body : AllFine (start_of op) op.body

-- arguments match the parameters in number and kind, and each number is at most the largest
abbrev pub Match : List Formal → List Arg → Type 0
Match [] [] = Unit {0}
Match (p ∷ params) (arg.Rec r ∷ args) = (p.kind ≡ RecKind) × Match params args
Match (p ∷ params) (arg.Num n ∷ args) = (p.kind ≡ NumKind) × (n ≤ max_value) × Match params args
Match _ _ = ⊥
