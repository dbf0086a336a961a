-- What the syntax of the code stands for.
use Rattle.std.specs.Prelude.{List, [], ◌∷◌, map}
use Rattle.oxii_defs.specs.Syntax as meant
use Rattle.txn_core.specs.declared.syntax.Calc.{Calc}
use Rattle.txn_core.specs.declared.syntax.Calc.TheVariants as calc
use Rattle.txn_core.specs.declared.syntax.Cmp.{Cmp}
use Rattle.txn_core.specs.declared.syntax.Cmp.TheVariants as cmp
use Rattle.txn_core.specs.declared.syntax.Expr.{Expr, more_of-Expr, end_of-Expr}
use Rattle.txn_core.specs.declared.syntax.Expr.TheVariants as expr
use Rattle.txn_core.specs.declared.syntax.Cond.{Cond, more_of-Cond, end_of-Cond}
use Rattle.txn_core.specs.declared.syntax.Cond.TheVariants as cond
use Rattle.txn_core.specs.declared.syntax.Stmt.{Stmt, Row_of-Stmt, more_of-Stmt, end_of-Stmt}
use Rattle.txn_core.specs.declared.syntax.Stmt.TheVariants as stmt
use Rattle.txn_core.specs.declared.syntax.ParamKind.{ParamKind}
use Rattle.txn_core.specs.declared.syntax.ParamKind.TheVariants as kind
use Rattle.txn_core.specs.declared.syntax.Param.{Param}
use Rattle.txn_core.specs.declared.syntax.Op.{Op}

abbrev pub operator_of : Calc → meant.Operator
operator_of calc.Add = meant.Add
operator_of calc.Sub = meant.Sub
operator_of calc.Mul = meant.Mul
operator_of calc.Div = meant.Div
operator_of calc.Rem = meant.Rem

abbrev pub comparison_of : Cmp → meant.Comparison
comparison_of cmp.Eq = meant.Eq
comparison_of cmp.Ne = meant.Ne
comparison_of cmp.Lt = meant.Lt
comparison_of cmp.Le = meant.Le
comparison_of cmp.Gt = meant.Gt
comparison_of cmp.Ge = meant.Ge

unfoldable pub expr_of : Expr → meant.Expr
expr_of (expr.Num n) = meant.Num n
expr_of (expr.Param i) = meant.Param i
expr_of (expr.Local i) = meant.Local i
expr_of (expr.Rec i) = meant.Rec i
expr_of (expr.Calc' op _ (more_of-Expr a end_of-Expr) _ (more_of-Expr b end_of-Expr)) = meant.Calc (operator_of op) (expr_of a) (expr_of b)

unfoldable pub cond_of : Cond → meant.Cond
cond_of (cond.Cmp op a b) = meant.Cmp (comparison_of op) (expr_of a) (expr_of b)
cond_of (cond.And' _ (more_of-Cond a end_of-Cond) _ (more_of-Cond b end_of-Cond)) = meant.And (cond_of a) (cond_of b)
cond_of (cond.Or' _ (more_of-Cond a end_of-Cond) _ (more_of-Cond b end_of-Cond)) = meant.Or (cond_of a) (cond_of b)
cond_of (cond.Not' _ (more_of-Cond a end_of-Cond)) = meant.Not (cond_of a)

unfoldable mutual
  pub stmt_of : Stmt → meant.Stmt
  stmt_of (stmt.Let slot name value) = meant.Let slot name (expr_of value)
  stmt_of (stmt.SetLocal slot value) = meant.SetLocal slot (expr_of value)
  stmt_of (stmt.SetRec i value) = meant.SetRec i (expr_of value)
  stmt_of (stmt.Require test) = meant.Require (cond_of test)
  stmt_of (stmt.If' test _ first _ second) = meant.If (cond_of test) (row_of first) (row_of second)
  stmt_of (stmt.Repeat' count _ body) = meant.Repeat count (row_of body)

  pub row_of : {m : _} → Row_of-Stmt m → meant.Stmts
  row_of end_of-Stmt = meant.Done
  row_of (more_of-Stmt s rest) = meant.Then (stmt_of s) (row_of rest)

abbrev pub stmts_of : List Stmt → meant.Stmts
stmts_of [] = meant.Done
stmts_of (s ∷ rest) = meant.Then (stmt_of s) (stmts_of rest)

abbrev pub kind_of : ParamKind → meant.ParamKind
kind_of kind.Rec = meant.RecKind
kind_of kind.Num = meant.NumKind

abbrev pub formal_of : Param → meant.Formal
formal_of p = record { name = p.name; kind = kind_of p.kind }

abbrev pub op_of : Op → meant.Op
op_of op = record { name = op.name; params = map formal_of op.params; body = stmts_of op.body }
