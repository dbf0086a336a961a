-- The growth law: what a log gives stays so for each longer log.
use Rattle.std.specs.Prelude.{ℕ, ◌≡◌, true, List, [], ◌∷◌, ◌++◌, length, Some}
use Rattle.txn_types.specs.declared.txn.Outcome.{Outcome}
use Rattle.txn_types.specs.declared.block.Block.{Block}
use Rattle.oxii_defs.specs.State.{State}
use Rattle.oxii_defs.specs.Table.{Table}
use Rattle.node_defs.specs.Rules.{Rules, in_force}
use Rattle.node_defs.specs.Programs.{rules_of}
use Rattle.node_defs.specs.Log.{Log}
use Rattle.node_defs.specs.Position.{Standing, standings}
use Rattle.node_defs.specs.Ledger.{completed, ledger, work_on, accepted_at}

-- ys is xs and what came after it
pub record Grew {A : Type 0} (xs ys : List A) : Type 0 where
  pub new : List A
  pub is : ys ≡ new ++ xs

-- what holds of a standing holds of the later one
pub record Keeps (x y : Standing) : Type 0 where
  pub ran : x.ran ≡ true → y.ran ≡ true
  pub agreed : (o : Outcome) → x.agreed ≡ Some o → y.agreed ≡ Some o
  pub believed : (o : Outcome) → x.believed ≡ Some o → y.believed ≡ Some o

-- so at each position
abbrev pub KeepAll : List Standing → List Standing → Type 0
KeepAll [] [] = Unit {0}
KeepAll (x ∷ xs) (y ∷ ys) = Keeps x y × KeepAll xs ys
KeepAll [] (y ∷ ys) = ⊥
KeepAll (x ∷ xs) [] = ⊥

-- the state of the positions of a block that is accepted after m completed blocks
abbrev pub standings_at : Rules → ℕ → ℕ → Block → Log → List Standing
standings_at rules me m b L =
    standings (in_force rules (completed rules me m L)) (work_on rules me m (completed rules me m) L b) (length b.txns) L

-- what is accepted, ran, is agreed, known and believed stays so, and completed blocks stay
pub record Stays (rules : Rules) (me : ℕ) (L K : Log) : Type 0 where
  pub accepted : (m : ℕ) (b : Block) → accepted_at rules me m L ≡ Some b → accepted_at rules me m K ≡ Some b
  pub positions : (m : ℕ) (b : Block) → accepted_at rules me m L ≡ Some b → KeepAll (standings_at rules me m b L) (standings_at rules me m b K)
  pub completed : Grew (ledger rules me L) (ledger rules me K)

-- whatever more entries come
abbrev pub Growth : Type 0
Growth = (table : Table) (genesis : State) (me : ℕ) (L more : Log) → Stays (rules_of table genesis) me L (more ++ L)
