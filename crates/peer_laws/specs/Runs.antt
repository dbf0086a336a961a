-- The positions that first ran with the latest entry of a log, block by block.
use Rattle.std.specs.Prelude.{ℕ, zero, suc, if◌then◌else◌, List, [], ◌∷◌, ◌++◌, reverse, length, Option, Some, None}
use Rattle.txn_types.specs.declared.txn.Txn.{Txn}
use Rattle.txn_types.specs.declared.block.Block.{Block}
use Rattle.node_defs.specs.Rules.{Rules, in_force}
use Rattle.node_defs.specs.Log.{Letter, Log}
use Rattle.node_defs.specs.Position.{Work}
use Rattle.node_defs.specs.Ledger.{completed, heard, is_split, work_on, accepted_at}
use Rattle.node_defs.specs.Sent.{newly_ran}

-- of a block its number, its transactions, and the positions that first ran with an entry, in order
pub record BlockRuns : Type 0 where
  pub n : ℕ
  pub txns : List Txn
  pub positions : List ℕ

-- a block is listed where a position of it ran; the last one is first
abbrev pub listed : ℕ → List Txn → List ℕ → List BlockRuns
listed n txns [] = []
listed n txns (t ∷ before) = record { n = n; txns = txns; positions = reverse (t ∷ before) } ∷ []

-- the runs of one block
abbrev pub runs_of : Rules → Work → Letter → Log → List BlockRuns
runs_of rules w e L = listed w.n w.txns (newly_ran rules w e L (length w.txns))

-- of block m + 1, where it is accepted
abbrev pub runs_with : Rules → ℕ → ℕ → Letter → Log → Option Block → List BlockRuns
runs_with rules me m e L None = []
runs_with rules me m e L (Some block) =
    runs_of (in_force rules (completed rules me m (e ∷ L))) (work_on rules me m (completed rules me m) (e ∷ L) block) e L

-- of block m + 1
abbrev pub runs_in : Rules → ℕ → ℕ → Letter → Log → List BlockRuns
runs_in rules me m e L = runs_with rules me m e L (accepted_at rules me m (e ∷ L))

-- of the first n blocks, in order
abbrev pub runs_upto : Rules → ℕ → ℕ → Letter → Log → List BlockRuns
runs_upto rules me zero e L = []
runs_upto rules me (suc m) e L = runs_upto rules me m e L ++ runs_in rules me m e L

-- the blocks of which the latest entry makes the peer run positions
abbrev pub runs : Rules → ℕ → Log → List BlockRuns
runs rules me [] = []
runs rules me (e ∷ L) =
    if is_split rules me (heard rules me L) then [] else runs_upto rules me (length (e ∷ L)) e L
