-- Expressions, statements and operations as plain data, without where they lie in memory.
use Rattle.std.specs.Prelude.{ℕ, List}
use Rattle.contract_grammar.specs.declared.token.Operator.{Operator}
use Rattle.contract_grammar.specs.declared.tree.Head.{Head}

-- an expression, with the byte of its first token; a name has its own byte too, which is another one in parentheses
pub data Tree : Type 0 where
  number : (at value : ℕ) → Tree
  name : (at own : ℕ) → List ℕ → Tree
  negation : (at : ℕ) → Tree → Tree
  binary : (at : ℕ) → Operator → Tree → Tree → Tree

mutual
  -- a statement, with the byte of the name in it
  pub data Statement : Type 0 where
    define : (at : ℕ) → List ℕ → Tree → Statement
    assign : (at : ℕ) → List ℕ → Tree → Statement
    demand : Tree → Statement
    choose : Tree → Statements → Statements → Statement
    again : ℕ → Statements → Statement

  -- the statements of a block, of which the last one comes last
  pub data Statements : Type 0 where
    nil : Statements
    then_one : Statements → Statement → Statements

-- an operation: its head as the reader has it, and its block
pub record Op : Type 0 where
  pub head : Head
  pub body : Statements

-- the byte of an expression's first token
abbrev pub first : Tree → ℕ
first (number at n) = at
first (name at own x) = at
first (negation at e) = at
first (binary at op a b) = at

-- the same expression after a parenthesis: a name keeps its own byte
abbrev pub begun_at : ℕ → Tree → Tree
begun_at p (number at n) = number p n
begun_at p (name at own x) = name p own x
begun_at p (negation at e) = negation p e
begun_at p (binary at op a b) = binary p op a b
