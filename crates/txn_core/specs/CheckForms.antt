-- What the test says of each form of the code's syntax.
use Rattle.std.specs.Prelude.{◌≡◌, ℕ, ◌*◌, true, ◌&&◌, nat_lt, nat_le, ◌==◌, List, [], ◌∷◌, ◌++◌, length}
use Rattle.std.proofs.Common.{refl, ap}
use Rattle.oxii_defs.specs.Syntax.{Name, Formal, RecKind, NumKind}
use Rattle.txn_types.specs.Values.{max_value, max_turns}
use Rattle.txn_core.specs.declared.syntax.Calc.{Calc}
use Rattle.txn_core.specs.declared.syntax.Cmp.{Cmp}
use Rattle.txn_core.specs.declared.syntax.Expr.{Expr}
use Rattle.txn_core.specs.declared.syntax.Expr.TheVariants as expr
use Rattle.txn_core.specs.declared.syntax.Cond.{Cond}
use Rattle.txn_core.specs.declared.syntax.Cond.TheVariants as cond
use Rattle.txn_core.specs.declared.syntax.Stmt.{Stmt}
use Rattle.txn_core.specs.declared.syntax.Stmt.TheVariants as stmt
use Rattle.txn_core.specs.Meant.{expr_of, cond_of, stmt_of, stmts_of}
use Rattle.txn_core.specs.Forms.{expr_of-Calc, cond_of-And, cond_of-Or, cond_of-Not, stmt_of-If, stmt_of-Repeat}
use Rattle.txn_core.specs.Checked.{has_kind, fine_expr, fine_cond, is_new, visible_after, fine, all_fine}

module _ (params : List Formal) (turns : ℕ) (visible : List Name) where
  pub fine_expr-Num : (n : ℕ) → fine_expr params visible (expr_of (expr.Num n)) ≡ nat_le n max_value
  unfolding expr_of fine_expr
  fine_expr-Num n = refl

  pub fine_expr-Param : (i : ℕ) → fine_expr params visible (expr_of (expr.Param i)) ≡ has_kind params i NumKind
  unfolding expr_of fine_expr
  fine_expr-Param i = refl

  pub fine_expr-Local : (i : ℕ) → fine_expr params visible (expr_of (expr.Local i)) ≡ nat_lt i (length visible)
  unfolding expr_of fine_expr
  fine_expr-Local i = refl

  pub fine_expr-Rec : (i : ℕ) → fine_expr params visible (expr_of (expr.Rec i)) ≡ has_kind params i RecKind
  unfolding expr_of fine_expr
  fine_expr-Rec i = refl

  pub fine_expr-Calc : (op : Calc) (a b : Expr) → fine_expr params visible (expr_of (expr.Calc op a b)) ≡ (fine_expr params visible (expr_of a) && fine_expr params visible (expr_of b))
  unfolding fine_expr
  fine_expr-Calc op a b = ap (fine_expr params visible) (expr_of-Calc op a b)

  pub fine_cond-Cmp : (op : Cmp) (a b : Expr) → fine_cond params visible (cond_of (cond.Cmp op a b)) ≡ (fine_expr params visible (expr_of a) && fine_expr params visible (expr_of b))
  unfolding cond_of fine_cond
  fine_cond-Cmp op a b = refl

  pub fine_cond-And : (p q : Cond) → fine_cond params visible (cond_of (cond.And p q)) ≡ (fine_cond params visible (cond_of p) && fine_cond params visible (cond_of q))
  unfolding fine_cond
  fine_cond-And p q = ap (fine_cond params visible) (cond_of-And p q)

  pub fine_cond-Or : (p q : Cond) → fine_cond params visible (cond_of (cond.Or p q)) ≡ (fine_cond params visible (cond_of p) && fine_cond params visible (cond_of q))
  unfolding fine_cond
  fine_cond-Or p q = ap (fine_cond params visible) (cond_of-Or p q)

  pub fine_cond-Not : (p : Cond) → fine_cond params visible (cond_of (cond.Not p)) ≡ fine_cond params visible (cond_of p)
  unfolding fine_cond
  fine_cond-Not p = ap (fine_cond params visible) (cond_of-Not p)

  pub fine-Let : (slot : ℕ) (name : List ℕ) (value : Expr) →
      fine params turns visible (stmt_of (stmt.Let slot name value)) ≡ ((slot == length visible) && (nat_lt slot 32 && (is_new params visible name && fine_expr params visible (expr_of value))))
  unfolding stmt_of fine
  fine-Let slot name value = refl

  pub fine-SetLocal : (slot : ℕ) (value : Expr) → fine params turns visible (stmt_of (stmt.SetLocal slot value)) ≡ (nat_lt slot (length visible) && fine_expr params visible (expr_of value))
  unfolding stmt_of fine
  fine-SetLocal slot value = refl

  pub fine-SetRec : (i : ℕ) (value : Expr) → fine params turns visible (stmt_of (stmt.SetRec i value)) ≡ (has_kind params i RecKind && fine_expr params visible (expr_of value))
  unfolding stmt_of fine
  fine-SetRec i value = refl

  pub fine-Require : (test : Cond) → fine params turns visible (stmt_of (stmt.Require test)) ≡ fine_cond params visible (cond_of test)
  unfolding stmt_of fine
  fine-Require test = refl

  pub fine-If : (test : Cond) (first second : List Stmt) →
      fine params turns visible (stmt_of (stmt.If test first second)) ≡ (fine_cond params visible (cond_of test) && (all_fine params turns visible (stmts_of first) && all_fine params turns visible (stmts_of second)))
  unfolding fine
  fine-If test first second = ap (fine params turns visible) (stmt_of-If test first second)

  pub fine-Repeat : (count : ℕ) (body : List Stmt) →
      fine params turns visible (stmt_of (stmt.Repeat count body))
      ≡ (nat_lt 0 count && (nat_le count 64 && (nat_le (turns * count) max_turns && all_fine params (turns * count) visible (stmts_of body))))
  unfolding fine
  fine-Repeat count body = ap (fine params turns visible) (stmt_of-Repeat count body)

  pub all_fine-none : all_fine params turns visible (stmts_of []) ≡ true
  unfolding fine
  all_fine-none = refl

  pub all_fine-more : (first : Stmt) (rest : List Stmt) → all_fine params turns visible (stmts_of (first ∷ rest)) ≡ (fine params turns visible (stmt_of first) && all_fine params turns (visible_after visible (stmt_of first)) (stmts_of rest))
  unfolding fine
  all_fine-more first rest = refl

module _ (visible : List Name) where
  pub visible-Let : (slot : ℕ) (name : List ℕ) (value : Expr) → visible_after visible (stmt_of (stmt.Let slot name value)) ≡ visible ++ name ∷ []
  unfolding stmt_of
  visible-Let slot name value = refl

  pub visible-SetLocal : (slot : ℕ) (value : Expr) → visible_after visible (stmt_of (stmt.SetLocal slot value)) ≡ visible
  unfolding stmt_of
  visible-SetLocal slot value = refl

  pub visible-SetRec : (i : ℕ) (value : Expr) → visible_after visible (stmt_of (stmt.SetRec i value)) ≡ visible
  unfolding stmt_of
  visible-SetRec i value = refl

  pub visible-Require : (test : Cond) → visible_after visible (stmt_of (stmt.Require test)) ≡ visible
  unfolding stmt_of
  visible-Require test = refl

  pub visible-If : (test : Cond) (first second : List Stmt) → visible_after visible (stmt_of (stmt.If test first second)) ≡ visible
  visible-If test first second = ap (visible_after visible) (stmt_of-If test first second)

  pub visible-Repeat : (count : ℕ) (body : List Stmt) → visible_after visible (stmt_of (stmt.Repeat count body)) ≡ visible
  visible-Repeat count body = ap (visible_after visible) (stmt_of-Repeat count body)

pub ruleset visibles = (visible-Let, visible-SetLocal, visible-SetRec, visible-Require, visible-If, visible-Repeat)

pub ruleset exprs = (fine_expr-Num, fine_expr-Param, fine_expr-Local, fine_expr-Rec, fine_expr-Calc)

pub ruleset conds = (fine_cond-Cmp, fine_cond-And, fine_cond-Or, fine_cond-Not)

pub ruleset stmts = (fine-Let, fine-SetLocal, fine-SetRec, fine-Require, fine-If, fine-Repeat)

pub ruleset lists = (all_fine-none, all_fine-more)
