-- The tree of each form of the code's syntax, and writing tokens one after another.
use Rattle.std.proofs.Common.{◌≡◌, ℕ, List, [], ◌∷◌, ◌++◌, refl, ap, sym, ◌∙◌, append_assoc}
use Rattle.std.proofs.lemmas.List.Sums.{fold-append}
use Rattle.std.proofs.lemmas.List.{append-nil}
use Rattle.contract_grammar.specs.declared.token.Mark.TheVariants.{WordElse}
use Rattle.contract_grammar.specs.declared.token.Operator.TheVariants as sign
use Rattle.contract_grammar.specs.declared.token.Token.{Token}
use Rattle.contract_grammar.specs.declared.token.Token.TheVariants.{Fixed}
use Rattle.contract_grammar.specs.Tree.{number, name, negation, binary, Statement, define, assign, demand, choose, again, Statements, nil, then_one}
use Rattle.oxii_defs.specs.Syntax as meant
use Rattle.txn_core.specs.declared.syntax.Calc.{Calc}
use Rattle.txn_core.specs.declared.syntax.Cmp.{Cmp}
use Rattle.txn_core.specs.declared.syntax.Expr.{Expr}
use Rattle.txn_core.specs.declared.syntax.Expr.TheVariants as expr
use Rattle.txn_core.specs.declared.syntax.Cond.{Cond}
use Rattle.txn_core.specs.declared.syntax.Cond.TheVariants as cond
use Rattle.txn_core.specs.declared.syntax.Stmt.{Stmt}
use Rattle.txn_core.specs.declared.syntax.Stmt.TheVariants as stmt
use Rattle.txn_core.specs.Meant.{operator_of, comparison_of, expr_of, cond_of, stmt_of, stmts_of}
use Rattle.txn_core.specs.Forms.{expr_of-Calc, cond_of-And, cond_of-Or, cond_of-Not, stmt_of-If, stmt_of-Repeat}
use Rattle.contract_printer.specs.declared.spaced_text.SpacedText.{SpacedText}
use Rattle.contract_printer.specs.Plain.{plain_operator, plain_comparison, param_name, local_name, plain_expr, plain_cond, visible_after, ahead, plain_stmt, plain_all}
use Rattle.contract_printer.specs.Printed.{braced, printed_stmt, printed_all, printed_else}
use Rattle.contract_printer.specs.SpacedTexts.{put, put_all}

pub put_both : (s : SpacedText) (xs ys : List Token) → put_all s (xs ++ ys) ≡ put_all (put_all s xs) ys
put_both s xs ys = fold-append put s xs ys

pub printed_ahead : (s : Statement) (ss : Statements) → printed_all (ahead s ss) ≡ printed_stmt s ++ printed_all ss
printed_ahead s nil = sym (append-nil _)
printed_ahead s (then_one ss t) = ap (λ ts. ts ++ printed_stmt t) (printed_ahead s ss) ∙ append_assoc (printed_stmt s) (printed_all ss) (printed_stmt t)

pub else_ahead : (s : Statement) (ss : Statements) → printed_else (ahead s ss) ≡ Fixed WordElse ∷ braced (printed_all (ahead s ss))
else_ahead s nil = refl
else_ahead s (then_one ss t) = refl

module _ (params : List meant.Formal) (locals : List (List ℕ)) where
  pub plain_expr-Num : (n : ℕ) → plain_expr params locals (expr_of (expr.Num n)) ≡ number 0 n
  unfolding expr_of plain_expr
  plain_expr-Num n = refl

  pub plain_expr-Param : (i : ℕ) → plain_expr params locals (expr_of (expr.Param i)) ≡ name 0 0 (param_name params i)
  unfolding expr_of plain_expr
  plain_expr-Param i = refl

  pub plain_expr-Local : (i : ℕ) → plain_expr params locals (expr_of (expr.Local i)) ≡ name 0 0 (local_name locals i)
  unfolding expr_of plain_expr
  plain_expr-Local i = refl

  pub plain_expr-Rec : (i : ℕ) → plain_expr params locals (expr_of (expr.Rec i)) ≡ name 0 0 (param_name params i)
  unfolding expr_of plain_expr
  plain_expr-Rec i = refl

  pub plain_expr-Calc : (op : Calc) (a b : Expr) →
      plain_expr params locals (expr_of (expr.Calc op a b)) ≡ binary 0 (plain_operator (operator_of op)) (plain_expr params locals (expr_of a)) (plain_expr params locals (expr_of b))
  unfolding plain_expr
  plain_expr-Calc op a b = ap (plain_expr params locals) (expr_of-Calc op a b)

  pub plain_cond-Cmp : (op : Cmp) (a b : Expr) →
      plain_cond params locals (cond_of (cond.Cmp op a b)) ≡ binary 0 (plain_comparison (comparison_of op)) (plain_expr params locals (expr_of a)) (plain_expr params locals (expr_of b))
  unfolding cond_of plain_cond
  plain_cond-Cmp op a b = refl

  pub plain_cond-And : (p q : Cond) → plain_cond params locals (cond_of (cond.And p q)) ≡ binary 0 sign.And (plain_cond params locals (cond_of p)) (plain_cond params locals (cond_of q))
  unfolding plain_cond
  plain_cond-And p q = ap (plain_cond params locals) (cond_of-And p q)

  pub plain_cond-Or : (p q : Cond) → plain_cond params locals (cond_of (cond.Or p q)) ≡ binary 0 sign.Or (plain_cond params locals (cond_of p)) (plain_cond params locals (cond_of q))
  unfolding plain_cond
  plain_cond-Or p q = ap (plain_cond params locals) (cond_of-Or p q)

  pub plain_cond-Not : (p : Cond) → plain_cond params locals (cond_of (cond.Not p)) ≡ negation 0 (plain_cond params locals (cond_of p))
  unfolding plain_cond
  plain_cond-Not p = ap (plain_cond params locals) (cond_of-Not p)

  pub plain_stmt-Let : (slot : ℕ) (x : List ℕ) (value : Expr) → plain_stmt params locals (stmt_of (stmt.Let slot x value)) ≡ define 0 x (plain_expr params locals (expr_of value))
  unfolding stmt_of plain_stmt
  plain_stmt-Let slot x value = refl

  pub plain_stmt-SetLocal : (slot : ℕ) (value : Expr) → plain_stmt params locals (stmt_of (stmt.SetLocal slot value)) ≡ assign 0 (local_name locals slot) (plain_expr params locals (expr_of value))
  unfolding stmt_of plain_stmt
  plain_stmt-SetLocal slot value = refl

  pub plain_stmt-SetRec : (i : ℕ) (value : Expr) → plain_stmt params locals (stmt_of (stmt.SetRec i value)) ≡ assign 0 (param_name params i) (plain_expr params locals (expr_of value))
  unfolding stmt_of plain_stmt
  plain_stmt-SetRec i value = refl

  pub plain_stmt-Require : (test : Cond) → plain_stmt params locals (stmt_of (stmt.Require test)) ≡ demand (plain_cond params locals (cond_of test))
  unfolding stmt_of plain_stmt
  plain_stmt-Require test = refl

  pub plain_stmt-If : (test : Cond) (first second : List Stmt) →
      plain_stmt params locals (stmt_of (stmt.If test first second)) ≡ choose (plain_cond params locals (cond_of test)) (plain_all params locals (stmts_of first)) (plain_all params locals (stmts_of second))
  unfolding plain_stmt
  plain_stmt-If test first second = ap (plain_stmt params locals) (stmt_of-If test first second)

  pub plain_stmt-Repeat : (count : ℕ) (body : List Stmt) → plain_stmt params locals (stmt_of (stmt.Repeat count body)) ≡ again count (plain_all params locals (stmts_of body))
  unfolding plain_stmt
  plain_stmt-Repeat count body = ap (plain_stmt params locals) (stmt_of-Repeat count body)

  pub plain_all-none : plain_all params locals (stmts_of []) ≡ nil
  unfolding plain_stmt
  plain_all-none = refl

  pub plain_all-more : (s : Stmt) (rest : List Stmt) →
      plain_all params locals (stmts_of (s ∷ rest)) ≡ ahead (plain_stmt params locals (stmt_of s)) (plain_all params (visible_after locals (stmt_of s)) (stmts_of rest))
  unfolding plain_stmt
  plain_all-more s rest = refl

module _ (locals : List (List ℕ)) where
  pub visible-Let : (slot : ℕ) (x : List ℕ) (value : Expr) → visible_after locals (stmt_of (stmt.Let slot x value)) ≡ locals ++ x ∷ []
  unfolding stmt_of
  visible-Let slot x value = refl

  pub visible-SetLocal : (slot : ℕ) (value : Expr) → visible_after locals (stmt_of (stmt.SetLocal slot value)) ≡ locals
  unfolding stmt_of
  visible-SetLocal slot value = refl

  pub visible-SetRec : (i : ℕ) (value : Expr) → visible_after locals (stmt_of (stmt.SetRec i value)) ≡ locals
  unfolding stmt_of
  visible-SetRec i value = refl

  pub visible-Require : (test : Cond) → visible_after locals (stmt_of (stmt.Require test)) ≡ locals
  unfolding stmt_of
  visible-Require test = refl

  pub visible-If : (test : Cond) (first second : List Stmt) → visible_after locals (stmt_of (stmt.If test first second)) ≡ locals
  visible-If test first second = ap (visible_after locals) (stmt_of-If test first second)

  pub visible-Repeat : (count : ℕ) (body : List Stmt) → visible_after locals (stmt_of (stmt.Repeat count body)) ≡ locals
  visible-Repeat count body = ap (visible_after locals) (stmt_of-Repeat count body)

pub ruleset visibles = (visible-Let, visible-SetLocal, visible-SetRec, visible-Require, visible-If, visible-Repeat)

pub ruleset exprs = (put_both, plain_expr-Num, plain_expr-Param, plain_expr-Local, plain_expr-Rec, plain_expr-Calc)

pub ruleset conds = (put_both, plain_cond-Cmp, plain_cond-And, plain_cond-Or, plain_cond-Not)

pub ruleset stmts = (put_both, plain_stmt-Let, plain_stmt-SetLocal, plain_stmt-SetRec, plain_stmt-Require, plain_stmt-If, plain_stmt-Repeat)

pub ruleset lists = (put_both, printed_ahead, else_ahead, plain_all-none, plain_all-more)
