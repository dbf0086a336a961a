-- The syntax of an operation, as the reader of contracts gives it.
-- A record is named by its number, since the table numbers the records in byte order of their names.
-- A parameter is named by its position from the left, a local by its position among the visible ones, the oldest first.
use Rattle.std.specs.Prelude.{ℕ, List}

-- the bytes of a name
abbrev pub Name : Type 0
Name = List ℕ

pub data Operator : Type 0 where
  Add Sub Mul Div Rem : Operator

pub data Comparison : Type 0 where
  Eq Ne Lt Le Gt Ge : Comparison

pub data Expr : Type 0 where
  Num : (n : ℕ) → Expr
  Param : (i : ℕ) → Expr
  Local : (i : ℕ) → Expr
  Rec : (i : ℕ) → Expr
  Calc : (op : Operator) (left right : Expr) → Expr

pub data Cond : Type 0 where
  Cmp : (op : Comparison) (left right : Expr) → Cond
  And : (left right : Cond) → Cond
  Or : (left right : Cond) → Cond
  Not : (test : Cond) → Cond

mutual
  pub data Stmt : Type 0 where
    Let : (slot : ℕ) (name : Name) (value : Expr) → Stmt
    SetLocal : (i : ℕ) (value : Expr) → Stmt
    SetRec : (i : ℕ) (value : Expr) → Stmt
    Require : (test : Cond) → Stmt
    If : (test : Cond) (first second : Stmts) → Stmt
    Repeat : (count : ℕ) (body : Stmts) → Stmt

  pub data Stmts : Type 0 where
    Done : Stmts
    Then : (first : Stmt) (rest : Stmts) → Stmts

pub data ParamKind : Type 0 where
  RecKind NumKind : ParamKind

pub record Formal : Type 0 where
  pub name : Name
  pub kind : ParamKind

pub record Op : Type 0 where
  pub name : Name
  pub params : List Formal
  pub body : Stmts
