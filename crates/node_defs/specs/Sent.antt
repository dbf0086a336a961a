-- What a peer sends.
use Rattle.std.specs.Prelude.{ℕ, zero, suc, ◌==◌, Bool, true, false, ◌&&◌, ◌||◌, not, if◌then◌else◌, List, [], ◌∷◌, ◌++◌, map, reverse, length, get_or, filter, Option, Some, None, unwrap_or}
use Rattle.txn_types.specs.declared.txn.Txn.{Txn}
use Rattle.txn_types.specs.declared.block.Block.{Block}
use Rattle.txn_types.specs.declared.message.Vote.{Vote}
use Rattle.txn_types.specs.declared.message.Commit.{Commit}
use Rattle.oxii_defs.specs.Dependency.{graph_of}
use Rattle.known_defs.specs.Known.{txn_at, no_outcome}
use Rattle.oxii_defs.specs.State.{contains}
use Rattle.node_defs.specs.Rules.{Rules, in_force}
use Rattle.node_defs.specs.Log.{Letter, Log}
use Rattle.node_defs.specs.Accepted.{accepted_after}
use Rattle.node_defs.specs.Position.{Work, Standing, is_agent}
use Rattle.node_defs.specs.Ledger.{completed, work_on, all_standings, is_split, heard}

-- THE RUN ORDER

-- how a position stands that a block doesn't have
abbrev pub no_standing : Standing
no_standing = record { ran = false; agreed = None; believed = None }

-- position t of the block ran
abbrev pub did_run : Rules → Work → ℕ → Log → Bool
did_run rules w t L = (get_or (all_standings rules w L) t no_standing).ran

-- of the first t positions those that ran with entry e, the last of them first
abbrev pub newly_ran : Rules → Work → Letter → Log → ℕ → List ℕ
newly_ran rules w e L zero = []
newly_ran rules w e L (suc t) = if did_run rules w t (e ∷ L) && not (did_run rules w t L) then t ∷ newly_ran rules w e L t else newly_ran rules w e L t

-- the positions that ran, the latest first
abbrev pub run_order : Rules → Work → Log → List ℕ
run_order rules w [] = []
run_order rules w (e ∷ L) = newly_ran rules w e L (length w.txns) ++ run_order rules w L

-- CUTS

-- t has a successor of another application, among these transactions and their predecessors
abbrev pub other_app_follows : ℕ → ℕ → List (List ℕ) → List Txn → Bool
other_app_follows t app [] later = false
other_app_follows t app (ps ∷ preds) [] = false
other_app_follows t app (ps ∷ preds) (u ∷ later) = (contains ps t && not (u.app == app)) || other_app_follows t app preds later

-- each of the first t positions that are this peer's to run is in the order
abbrev pub all_own_in : Rules → Work → List ℕ → ℕ → Bool
all_own_in rules w order zero = true
all_own_in rules w order (suc t) = (not (is_agent rules w.me (txn_at w.txns t)) || contains order t) && all_own_in rules w order t

-- a cut is after the last position of this order: another application waits for it, or all that is this peer's ran
abbrev pub is_cut : Rules → Work → List ℕ → Bool
is_cut rules w [] = false
is_cut rules w (t ∷ before) =
    other_app_follows t (txn_at w.txns t).app (graph_of rules.table.kind w.txns) w.txns || all_own_in rules w (t ∷ before) (length w.txns)

-- what is after the last cut, the latest first
abbrev pub held : Rules → Work → List ℕ → List ℕ
held rules w [] = []
held rules w (t ∷ before) = if is_cut rules w (t ∷ before) then [] else t ∷ held rules w before

-- what is between two cuts, the latest first
abbrev pub batches : Rules → Work → List ℕ → List (List ℕ)
batches rules w [] = []
batches rules w (t ∷ before) = if is_cut rules w (t ∷ before) then (t ∷ held rules w before) ∷ batches rules w before else batches rules w before

-- COMMITS

-- a vote on t, with the peer's believed outcome
abbrev pub vote_on : List Standing → ℕ → Vote
vote_on all t = record { t = t; outcome = unwrap_or (get_or all t no_standing).believed no_outcome }

-- the COMMIT of a batch, in run order
abbrev pub commit_of : Work → List Standing → List ℕ → Commit
commit_of w all batch = record { n = w.n; votes = map (vote_on all) (reverse batch) }

-- after the last position of the batch there is a cut that came with entry e
abbrev pub is_due : Rules → Work → Letter → Log → List ℕ → Bool
is_due rules w e L [] = false
is_due rules w e L (t ∷ before) = not (did_run rules w t L)

-- the COMMITs of one block that the last entry of the log makes the peer send, in order
abbrev pub sent_of : Rules → Work → Letter → Log → List Commit
sent_of rules w e L =
    map (commit_of w (all_standings rules w (e ∷ L))) (reverse (filter (is_due rules w e L) (batches rules w (run_order rules w (e ∷ L)))))

-- of block m + 1, where it is accepted
abbrev pub sent_with : Rules → ℕ → ℕ → Letter → Log → Option Block → List Commit
sent_with rules me m e L None = []
sent_with rules me m e L (Some block) =
    sent_of (in_force rules (completed rules me m (e ∷ L))) (work_on rules me m (completed rules me m) (e ∷ L) block) e L

-- of block m + 1
abbrev pub sent_in : Rules → ℕ → ℕ → Letter → Log → List Commit
sent_in rules me m e L = sent_with rules me m e L (accepted_after rules m (completed rules me m (e ∷ L)) (e ∷ L))

-- of the first n blocks
abbrev pub sent_upto : Rules → ℕ → ℕ → Letter → Log → List Commit
sent_upto rules me zero e L = []
sent_upto rules me (suc m) e L = sent_upto rules me m e L ++ sent_in rules me m e L

-- the COMMITs that the last entry makes the peer send
abbrev pub sent : Rules → ℕ → Log → List Commit
sent rules me [] = []
sent rules me (e ∷ L) =
    if is_split rules me (heard rules me L) then [] else sent_upto rules me (length (e ∷ L)) e L
