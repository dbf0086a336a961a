-- What each form of the code's syntax stands for, and what it means by the meaning of its parts.
use Rattle.std.specs.Prelude.{◌≡◌, ◌<◌, ℕ, ◌+◌, List, Ok, Err, slice_index, if◌then◌else◌}
use Rattle.std.proofs.Common.{refl, ap, ◌∙◌, subst}
use Rattle.std.specs.FinMap as map
use mathlib.Core.Former.{Count}
use denote.Hole.Carrier.{hidden}
use Rattle.oxii_defs.specs.Syntax as meant
use Rattle.oxii_defs.specs.Calls.{Call, Frame, record_at, number_at, with_local, with_local_at}
use Rattle.oxii_defs.specs.Meaning.{compared}
use Rattle.oxii_defs.specs.Running.{and_then, both, calc, read, conjunction, disjunction, negation, scoped, turns, write, value_of, truth_of, after, after_all}
use Rattle.txn_types.specs.declared.txn.Reason.TheVariants as reason
use Rattle.txn_core.specs.declared.syntax.Calc.{Calc}
use Rattle.txn_core.specs.declared.syntax.Cmp.{Cmp}
use Rattle.txn_core.specs.declared.syntax.Expr.{Expr}
use Rattle.txn_core.specs.declared.syntax.Expr.TheBlock.{hidden-the_row-Expr-0}
use Rattle.txn_core.specs.declared.syntax.Expr.TheVariants as expr
use Rattle.txn_core.specs.declared.syntax.Cond.{Cond}
use Rattle.txn_core.specs.declared.syntax.Cond.TheBlock.{hidden-the_row-Cond-0}
use Rattle.txn_core.specs.declared.syntax.Cond.TheVariants as cond
use Rattle.txn_core.specs.declared.syntax.Stmt.{Stmt, Row_of-Stmt, more_of-Stmt, end_of-Stmt, items-the_row-Stmt, items_hidden-the_row-Stmt-0}
use Rattle.txn_core.specs.declared.syntax.Stmt.TheVariants as stmt
use Rattle.txn_core.specs.Meant.{operator_of, comparison_of, expr_of, cond_of, stmt_of, row_of, stmts_of}
use Rattle.txn_core.specs.Slots.{HasSlots, AllHaveSlots, depth_after, weight, weights}

-- WHAT THE FORMS STAND FOR

pub expr_of-Calc : (op : Calc) (a b : Expr) → expr_of (expr.Calc op a b) ≡ meant.Calc (operator_of op) (expr_of a) (expr_of b)
unfolding expr_of hidden-the_row-Expr-0 hidden
expr_of-Calc op a b = refl

pub cond_of-And : (a b : Cond) → cond_of (cond.And a b) ≡ meant.And (cond_of a) (cond_of b)
unfolding cond_of hidden-the_row-Cond-0 hidden
cond_of-And a b = refl

pub cond_of-Or : (a b : Cond) → cond_of (cond.Or a b) ≡ meant.Or (cond_of a) (cond_of b)
unfolding cond_of hidden-the_row-Cond-0 hidden
cond_of-Or a b = refl

pub cond_of-Not : (a : Cond) → cond_of (cond.Not a) ≡ meant.Not (cond_of a)
unfolding cond_of hidden-the_row-Cond-0 hidden
cond_of-Not a = refl

-- a row of statements stands for what the list of them does
row_of-items : (n : _) (row : Row_of-Stmt n) → row_of row ≡ stmts_of (items-the_row-Stmt n row)
unfolding stmt_of
row_of-items n end_of-Stmt = refl
row_of-items n (more_of-Stmt s rest) = ap (meant.Then (stmt_of s)) (row_of-items _ rest)

abbrev first_row : Stmt → (n : Count) × Row_of-Stmt n
first_row (stmt.Repeat' _ _ body) = (_, body)
first_row (stmt.If' _ _ first _ second) = (_, first)
first_row _ = (_, end_of-Stmt)

abbrev second_row : Stmt → (n : Count) × Row_of-Stmt n
second_row (stmt.If' _ _ first _ second) = (_, second)
second_row _ = (_, end_of-Stmt)

same_rows : (row : (n : Count) × Row_of-Stmt n) (body : List Stmt) → items-the_row-Stmt row.0 row.1 ≡ body → row_of row.1 ≡ stmts_of body
same_rows row body e = row_of-items row.0 row.1 ∙ ap stmts_of e

pub stmt_of-Repeat : (count : ℕ) (body : List Stmt) → stmt_of (stmt.Repeat count body) ≡ meant.Repeat count (stmts_of body)
unfolding stmt_of
stmt_of-Repeat count body = ap (meant.Repeat count) (same_rows (first_row (stmt.Repeat count body)) body (items_hidden-the_row-Stmt-0 body))

pub stmt_of-If : (test : Cond) (first second : List Stmt) →
    stmt_of (stmt.If test first second) ≡ meant.If (cond_of test) (stmts_of first) (stmts_of second)
unfolding stmt_of
stmt_of-If test first second =
    let one = same_rows (first_row (stmt.If test first second)) first (items_hidden-the_row-Stmt-0 first) in
    let two = same_rows (second_row (stmt.If test first second)) second (items_hidden-the_row-Stmt-0 second) in
    λ i. meant.If (cond_of test) (one i) (two i)

-- WHAT THEY MEAN

module _ (c : Call) (f : Frame) where
  pub value_of-Num : (n : ℕ) → value_of c f (expr_of (expr.Num n)) ≡ Ok n
  unfolding expr_of value_of
  value_of-Num n = refl

  pub value_of-Param : (i : ℕ) → value_of c f (expr_of (expr.Param i)) ≡ Ok (number_at c i)
  unfolding expr_of value_of
  value_of-Param i = refl

  pub value_of-Local : (i : ℕ) → value_of c f (expr_of (expr.Local i)) ≡ Ok (slice_index f.locals i)
  unfolding expr_of value_of
  value_of-Local i = refl

  pub value_of-Rec : (i : ℕ) → value_of c f (expr_of (expr.Rec i)) ≡ read c (record_at c i) (map.get f.written (record_at c i))
  unfolding expr_of value_of
  value_of-Rec i = refl

  pub value_of-Calc : (op : Calc) (a b : Expr) →
      value_of c f (expr_of (expr.Calc op a b)) ≡ both (calc (operator_of op)) (value_of c f (expr_of a)) (value_of c f (expr_of b))
  unfolding value_of
  value_of-Calc op a b = ap (value_of c f) (expr_of-Calc op a b)

  pub truth_of-Cmp : (op : Cmp) (a b : Expr) →
      truth_of c f (cond_of (cond.Cmp op a b)) ≡ both (λ x y. Ok (compared (comparison_of op) x y)) (value_of c f (expr_of a)) (value_of c f (expr_of b))
  unfolding cond_of truth_of
  truth_of-Cmp op a b = refl

  pub truth_of-And : (a b : Cond) → truth_of c f (cond_of (cond.And a b)) ≡ conjunction (truth_of c f (cond_of a)) (truth_of c f (cond_of b))
  unfolding truth_of
  truth_of-And a b = ap (truth_of c f) (cond_of-And a b)

  pub truth_of-Or : (a b : Cond) → truth_of c f (cond_of (cond.Or a b)) ≡ disjunction (truth_of c f (cond_of a)) (truth_of c f (cond_of b))
  unfolding truth_of
  truth_of-Or a b = ap (truth_of c f) (cond_of-Or a b)

  pub truth_of-Not : (a : Cond) → truth_of c f (cond_of (cond.Not a)) ≡ negation (truth_of c f (cond_of a))
  unfolding truth_of
  truth_of-Not a = ap (truth_of c f) (cond_of-Not a)

  pub after-Let : (slot : ℕ) (name : List ℕ) (value : Expr) →
      after c (stmt_of (stmt.Let slot name value)) f ≡ and_then (value_of c f (expr_of value)) (λ v. Ok (with_local f v))
  unfolding stmt_of after
  after-Let slot name value = refl

  pub after-SetLocal : (slot : ℕ) (value : Expr) →
      after c (stmt_of (stmt.SetLocal slot value)) f ≡ and_then (value_of c f (expr_of value)) (λ v. Ok (with_local_at f slot v))
  unfolding stmt_of after
  after-SetLocal slot value = refl

  pub after-SetRec : (i : ℕ) (value : Expr) →
      after c (stmt_of (stmt.SetRec i value)) f ≡ and_then (value_of c f (expr_of value)) (λ v. write (record_at c i) v f)
  unfolding stmt_of after
  after-SetRec i value = refl

  pub after-Require : (test : Cond) →
      after c (stmt_of (stmt.Require test)) f ≡ and_then (truth_of c f (cond_of test)) (λ x. if x then Ok f else Err reason.Require)
  unfolding stmt_of after
  after-Require test = refl

  pub after-If : (test : Cond) (first second : List Stmt) →
      after c (stmt_of (stmt.If test first second)) f
      ≡ and_then (truth_of c f (cond_of test)) (λ x. if x then scoped (after_all c (stmts_of first)) f else scoped (after_all c (stmts_of second)) f)
  unfolding after
  after-If test first second = ap (λ s. after c s f) (stmt_of-If test first second)

  pub after-Repeat : (count : ℕ) (body : List Stmt) →
      after c (stmt_of (stmt.Repeat count body)) f ≡ turns count (scoped (after_all c (stmts_of body))) f
  unfolding after
  after-Repeat count body = ap (λ s. after c s f) (stmt_of-Repeat count body)

pub ruleset exprs = (value_of-Num, value_of-Param, value_of-Local, value_of-Rec, value_of-Calc)

pub ruleset conds = (truth_of-Cmp, truth_of-And, truth_of-Or, truth_of-Not)

pub ruleset stmts = (after-Let, after-SetLocal, after-SetRec, after-Require, after-Repeat, after-If)

-- SLOTS

pub slots-Let : (n slot : ℕ) (name : List ℕ) (value : Expr) → HasSlots n (stmt_of (stmt.Let slot name value)) → n < 32
unfolding stmt_of HasSlots
slots-Let n slot name value h = h

pub slots-SetLocal : (n slot : ℕ) (value : Expr) → HasSlots n (stmt_of (stmt.SetLocal slot value)) → slot < n
unfolding stmt_of HasSlots
slots-SetLocal n slot value h = h

pub slots-If : (n : ℕ) (s : Stmt) (test : Cond) (first second : List Stmt) → HasSlots n (stmt_of s) → s ≡ stmt.If test first second →
    AllHaveSlots n (stmts_of first) × AllHaveSlots n (stmts_of second)
unfolding HasSlots
slots-If n s test first second h e = subst (HasSlots n) (ap stmt_of e ∙ stmt_of-If test first second) h

pub slots-Repeat : (n : ℕ) (s : Stmt) (count : ℕ) (body : List Stmt) → HasSlots n (stmt_of s) → s ≡ stmt.Repeat count body → AllHaveSlots n (stmts_of body)
unfolding HasSlots
slots-Repeat n s count body h e = subst (HasSlots n) (ap stmt_of e ∙ stmt_of-Repeat count body) h

module _ (n : ℕ) where
  pub depth-Let : (slot : ℕ) (name : List ℕ) (value : Expr) → depth_after n (stmt_of (stmt.Let slot name value)) ≡ n + 1
  unfolding stmt_of
  depth-Let slot name value = refl

  pub depth-SetLocal : (slot : ℕ) (value : Expr) → depth_after n (stmt_of (stmt.SetLocal slot value)) ≡ n
  unfolding stmt_of
  depth-SetLocal slot value = refl

  pub depth-SetRec : (i : ℕ) (value : Expr) → depth_after n (stmt_of (stmt.SetRec i value)) ≡ n
  unfolding stmt_of
  depth-SetRec i value = refl

  pub depth-Require : (test : Cond) → depth_after n (stmt_of (stmt.Require test)) ≡ n
  unfolding stmt_of
  depth-Require test = refl

  pub depth-If : (test : Cond) (first second : List Stmt) → depth_after n (stmt_of (stmt.If test first second)) ≡ n
  depth-If test first second = ap (depth_after n) (stmt_of-If test first second)

  pub depth-Repeat : (count : ℕ) (body : List Stmt) → depth_after n (stmt_of (stmt.Repeat count body)) ≡ n
  depth-Repeat count body = ap (depth_after n) (stmt_of-Repeat count body)

pub ruleset slots = (slots-Let, slots-SetLocal, depth-Let, depth-SetLocal, depth-SetRec, depth-Require, depth-If, depth-Repeat)

pub weight-If : (s : Stmt) (test : Cond) (first second : List Stmt) → s ≡ stmt.If test first second →
    weight (stmt_of s) ≡ weights (stmts_of first) + weights (stmts_of second) + 1
unfolding weight
weight-If s test first second e = ap weight (ap stmt_of e ∙ stmt_of-If test first second)

pub weight-Repeat : (s : Stmt) (count : ℕ) (body : List Stmt) → s ≡ stmt.Repeat count body → weight (stmt_of s) ≡ weights (stmts_of body) + 1
unfolding weight
weight-Repeat s count body e = ap weight (ap stmt_of e ∙ stmt_of-Repeat count body)
