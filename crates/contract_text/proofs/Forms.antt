-- What each form of a typed operation stands for.
use Rattle.std.proofs.Common.{◌≡◌, ℕ, List, [], ◌∷◌, map, refl, ap, ◌∙◌}
use Rattle.oxii_defs.specs.Syntax as meant
use Rattle.txn_core.specs.declared.syntax.Cmp.{Cmp}
use Rattle.txn_core.specs.declared.syntax.Expr.{Expr}
use Rattle.txn_core.specs.declared.syntax.Expr.TheVariants as expr
use Rattle.txn_core.specs.declared.syntax.Cond.{Cond}
use Rattle.txn_core.specs.declared.syntax.Cond.TheVariants as cond
use Rattle.txn_core.specs.declared.syntax.Stmt.{Stmt}
use Rattle.txn_core.specs.declared.syntax.Stmt.TheVariants as stmt
use Rattle.txn_core.specs.Meant.{comparison_of, expr_of, cond_of, stmt_of, stmts_of}
use Rattle.txn_core.specs.Forms.{expr_of-Calc, cond_of-And, cond_of-Or, cond_of-Not, stmt_of-If, stmt_of-Repeat}
use Rattle.contract_text.specs.Typed.{sequence}

pub expr_of-Num : (n : ℕ) → expr_of (expr.Num n) ≡ meant.Num n
unfolding expr_of
expr_of-Num n = refl

pub expr_of-Param : (i : ℕ) → expr_of (expr.Param i) ≡ meant.Param i
unfolding expr_of
expr_of-Param i = refl

pub expr_of-Local : (i : ℕ) → expr_of (expr.Local i) ≡ meant.Local i
unfolding expr_of
expr_of-Local i = refl

pub expr_of-Rec : (i : ℕ) → expr_of (expr.Rec i) ≡ meant.Rec i
unfolding expr_of
expr_of-Rec i = refl

pub cond_of-Cmp : (op : Cmp) (a b : Expr) → cond_of (cond.Cmp op a b) ≡ meant.Cmp (comparison_of op) (expr_of a) (expr_of b)
unfolding cond_of
cond_of-Cmp op a b = refl

pub stmts_sequence : (ss : List Stmt) → stmts_of ss ≡ sequence (map stmt_of ss)
stmts_sequence [] = refl
stmts_sequence (s ∷ ss) = ap (meant.Then (stmt_of s)) (stmts_sequence ss)

pub stmt_of-Let : (slot : ℕ) (name : List ℕ) (value : Expr) → stmt_of (stmt.Let slot name value) ≡ meant.Let slot name (expr_of value)
unfolding stmt_of
stmt_of-Let slot name value = refl

pub stmt_of-SetLocal : (slot : ℕ) (value : Expr) → stmt_of (stmt.SetLocal slot value) ≡ meant.SetLocal slot (expr_of value)
unfolding stmt_of
stmt_of-SetLocal slot value = refl

pub stmt_of-SetRec : (i : ℕ) (value : Expr) → stmt_of (stmt.SetRec i value) ≡ meant.SetRec i (expr_of value)
unfolding stmt_of
stmt_of-SetRec i value = refl

pub stmt_of-Require : (test : Cond) → stmt_of (stmt.Require test) ≡ meant.Require (cond_of test)
unfolding stmt_of
stmt_of-Require test = refl

pub stmt_of-both : (test : Cond) (first second : List Stmt) →
    stmt_of (stmt.If test first second) ≡ meant.If (cond_of test) (sequence (map stmt_of first)) (sequence (map stmt_of second))
stmt_of-both test first second =
    stmt_of-If test first second ∙ (λ i. meant.If (cond_of test) (stmts_sequence first i) (stmts_sequence second i))

pub stmt_of-turns : (count : ℕ) (body : List Stmt) → stmt_of (stmt.Repeat count body) ≡ meant.Repeat count (sequence (map stmt_of body))
stmt_of-turns count body = stmt_of-Repeat count body ∙ ap (meant.Repeat count) (stmts_sequence body)

pub ruleset expressions = (expr_of-Num, expr_of-Param, expr_of-Local, expr_of-Rec, expr_of-Calc)

pub ruleset conditions = (expr_of-Num, cond_of-Cmp, cond_of-And, cond_of-Or, cond_of-Not)

pub ruleset statements = (stmt_of-Let, stmt_of-SetLocal, stmt_of-SetRec, stmt_of-Require, stmt_of-both, stmt_of-turns)
