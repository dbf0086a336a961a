-- What the limits give to the second pass.
use Rattle.std.specs.Prelude.{ℕ, ◌*◌, ◌≤◌, ◌<◌, List, [], ◌++◌, length}
use Rattle.std.specs.List.{All}
use Rattle.contract_grammar.specs.Tree.{Tree, number, name, negation, binary, Statement, define, assign, demand, choose, again, Statements, nil, then_one, Op}
use Rattle.txn_types.specs.Values.{max_value, max_turns}
use Rattle.contract_text.specs.Symbols.{made}

-- each number is at most the largest value
abbrev pub IsSmall : Tree → Type 0
IsSmall (number at n) = n ≤ max_value
IsSmall (name at own x) = Unit {0}
IsSmall (negation at e) = IsSmall e
IsSmall (binary at op a b) = IsSmall a × IsSmall b

abbrev mutual
  -- a statement within the limits, where these locals are visible and the enclosing repeat counts have this product
  pub IsBounded : List (List ℕ) → ℕ → Statement → Type 0
  IsBounded locals turns (define at x e) = (length locals < 32) × IsSmall e
  IsBounded locals turns (assign at x e) = (length locals ≤ 32) × IsSmall e
  IsBounded locals turns (demand e) = (length locals ≤ 32) × IsSmall e
  IsBounded locals turns (choose e b c) = (length locals ≤ 32) × IsSmall e × AllBounded locals turns b × AllBounded locals turns c
  IsBounded locals turns (again n b) = (0 < n) × (n ≤ 64) × (turns * n ≤ max_turns) × AllBounded locals (turns * n) b

  -- the statements of a block
  pub AllBounded : List (List ℕ) → ℕ → Statements → Type 0
  AllBounded locals turns nil = Unit {0}
  AllBounded locals turns (then_one ss s) = AllBounded locals turns ss × IsBounded (locals ++ made ss) turns s

-- an operation within the limits
pub record IsBoundedOp (o : Op) : Type 0 where
  pub params : length o.head.params ≤ 16
  pub body : AllBounded [] 1 o.body

-- at most 16 operations within the limits
pub record AreBounded (os : List Op) : Type 0 where
  pub count : length os ≤ 16
  pub each : All IsBoundedOp os

abbrev mutual
  -- the parts of a statement that are numbered have room
  pub HasRoom : List (List ℕ) → Statement → Type 0
  HasRoom locals (define at x e) = length locals < 32
  HasRoom locals (assign at x e) = length locals ≤ 32
  HasRoom locals (demand e) = length locals ≤ 32
  HasRoom locals (choose e b c) = (length locals ≤ 32) × AllHaveRoom locals b × AllHaveRoom locals c
  HasRoom locals (again n b) = (n ≤ 64) × AllHaveRoom locals b

  -- the same of the statements of a block
  pub AllHaveRoom : List (List ℕ) → Statements → Type 0
  AllHaveRoom locals nil = Unit {0}
  AllHaveRoom locals (then_one ss s) = AllHaveRoom locals ss × HasRoom (locals ++ made ss) s

-- the same of an operation
pub record HasRoomInOp (o : Op) : Type 0 where
  pub params : length o.head.params ≤ 16
  pub body : AllHaveRoom [] o.body
