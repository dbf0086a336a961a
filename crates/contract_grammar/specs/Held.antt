-- What the trees of the code stand for.
use Rattle.std.specs.Prelude.{List, map}
use Rattle.contract_grammar.specs.declared.tree.Expr.{Expr}
use Rattle.contract_grammar.specs.declared.tree.Expr.TheVariants as expr
use Rattle.contract_grammar.specs.declared.tree.Operation.{Operation}
use Rattle.contract_grammar.specs.declared.tree.Stmt.{Stmt}
use Rattle.contract_grammar.specs.declared.tree.Stmt.TheVariants as stmt
use Rattle.contract_grammar.specs.declared.tree.Stmts.{Stmts}
use Rattle.contract_grammar.specs.declared.tree.Stmts.TheVariants as stmts
use Rattle.contract_grammar.specs.Tree.{Tree, number, name, negation, binary, Op, Statement, define, assign, demand, choose, Statements, again, nil, then_one}

-- the plain form of an expression
abbrev pub tree : Expr → Tree
tree (expr.Number at n) = number at n
tree (expr.Named at own x) = name at own x
tree (expr.Not' at p e) = negation at (tree e)
tree (expr.Binary' at op p a q b) = binary at op (tree a) (tree b)

abbrev mutual
  -- the plain form of a statement
  pub statement : Stmt → Statement
  statement (stmt.Let at x e) = define at x (tree e)
  statement (stmt.Assign at x e) = assign at x (tree e)
  statement (stmt.Require e) = demand (tree e)
  statement (stmt.If' e p a q b) = choose (tree e) (statements a) (statements b)
  statement (stmt.Repeat' n p a) = again n (statements a)

  -- the plain form of the statements of a block
  pub statements : Stmts → Statements
  statements stmts.Empty = nil
  statements (stmts.Then' p ss q s) = then_one (statements ss) (statement s)

-- the plain form of an operation
abbrev pub operation : Operation → Op
operation o = record { head = o.head; body = statements o.body }

-- the plain form of the operations
abbrev pub operations : List Operation → List Op
operations os = map operation os
