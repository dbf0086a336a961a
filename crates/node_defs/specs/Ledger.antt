-- Completed blocks, the ledger and its state, and the halt.
use Rattle.std.specs.Prelude.{ℕ, zero, suc, Bool, false, ◌&&◌, not, if◌then◌else◌, List, [], ◌∷◌, map, length, Option, Some, None, is_some, option_map, unwrap_or}
use Rattle.std.specs.List.{list_all}
use Rattle.std.specs.Option.{option_or}
use Rattle.txn_types.specs.declared.txn.Outcome.{Outcome}
use Rattle.txn_types.specs.declared.txn.Txn.{Txn}
use Rattle.txn_types.specs.declared.block.Block.{Block}
use Rattle.oxii_defs.specs.State.{State}
use Rattle.oxii_defs.specs.Effects.{apply}
use Rattle.oxii_defs.specs.Lines.{Entry}
use Rattle.known_defs.specs.Known.{no_outcome}
use Rattle.node_defs.specs.Same.{same_outcome}
use Rattle.node_defs.specs.Rules.{Rules, in_force}
use Rattle.node_defs.specs.Log.{Log}
use Rattle.node_defs.specs.Accepted.{accepted_after}
use Rattle.node_defs.specs.Position.{Work, Standing, standings}

-- STATES

-- the state after a block with these outcomes
abbrev pub after_outcomes : State → List Txn → List Outcome → State
after_outcomes s [] outcomes = s
after_outcomes s (t ∷ rest) [] = s
after_outcomes s (t ∷ rest) (o ∷ outcomes) = after_outcomes (apply s t o) rest outcomes

-- the state after a ledger, the latest block first
abbrev pub ledger_state : Rules → List Entry → State
ledger_state rules [] = rules.genesis
ledger_state rules (e ∷ before) = after_outcomes (ledger_state rules before) e.block.txns e.outcomes

-- COMPLETED BLOCKS

-- block m + 1 as the peer works on it, where `done` gives the m completed blocks of each log
abbrev pub work_on : Rules → ℕ → ℕ → (Log → List Entry) → Log → Block → Work
work_on rules me m done L block = record {
  me = me;
  n = suc m;
  txns = block.txns;
  base = ledger_state rules (done L);
  opens = λ K. is_some (accepted_after rules m (done K) K);
}

-- it ran, and was agreed with another outcome
abbrev pub differs : Standing → Bool
differs s = s.ran && unwrap_or (option_map (λ o. not (same_outcome o (unwrap_or s.believed o))) s.agreed) false

-- it is agreed, and with the outcome of its run, where it ran
abbrev pub is_agreed : Standing → Bool
is_agreed s = is_some s.agreed && not (differs s)

-- the outcome that it is agreed with
abbrev pub agreed_outcome : Standing → Outcome
agreed_outcome s = unwrap_or s.agreed no_outcome

-- a block goes to the ledger once each position is agreed, and none that ran was agreed with another outcome
abbrev pub with_entry : Block → List Standing → List Entry → List Entry
with_entry block all done = if list_all is_agreed all then record { block = block; outcomes = map agreed_outcome all } ∷ done else done

-- the completed blocks with the next one, where it is accepted and its positions are agreed
abbrev pub completed_with : Rules → ℕ → ℕ → (Log → List Entry) → Log → Option Block → List Entry
completed_with rules me m done L None = done L
completed_with rules me m done L (Some block) =
    with_entry block (standings (in_force rules (done L)) (work_on rules me m done L block) (length block.txns) L) (done L)

-- the completed blocks among the first n, the latest first
abbrev pub completed : Rules → ℕ → ℕ → Log → List Entry
completed rules me zero L = []
completed rules me (suc m) L = completed_with rules me m (completed rules me m) L (accepted_after rules m (completed rules me m L) L)

-- all completed blocks: each has an entry of its own in the log, so there are no more than entries
abbrev pub ledger : Rules → ℕ → Log → List Entry
ledger rules me L = completed rules me (length L) L

-- THE BLOCK IN WORK, AND THE HALT

-- the accepted block that isn't completed
abbrev pub current : Rules → ℕ → Log → Option Work
current rules me L =
    let m = length (ledger rules me L) in
    option_map (work_on rules me m (completed rules me m) L) (accepted_after rules m (completed rules me m L) L)

-- how all positions of the block stand
abbrev pub all_standings : Rules → Work → Log → List Standing
all_standings rules w L = standings rules w (length w.txns) L

-- what a halted peer holds: the block, the position and its write set, the outcome of its run and the agreed one
pub record Halt : Type 0 where
  pub n : ℕ
  pub t : ℕ
  pub writes : List ℕ
  pub ran : Outcome
  pub voted : Outcome

-- the halt of a position that ran and was agreed with another outcome
abbrev pub halt_at : ℕ → ℕ → Txn → Standing → Option Halt
halt_at n t txn s =
    if differs s then Some (record { n = n; t = t; writes = txn.writes; ran = unwrap_or s.believed no_outcome; voted = agreed_outcome s }) else None

-- that of the lowest position, from t on, that ran and was agreed with another outcome
abbrev pub first_halt : ℕ → ℕ → List Txn → List Standing → Option Halt
first_halt n t (txn ∷ rest) (s ∷ all) = option_or (halt_at n t txn s) (first_halt n (suc t) rest all)
first_halt n t _ _ = None

-- that of the block in work, if there is one
abbrev pub halt_in : Rules → Log → Option Work → Option Halt
halt_in rules L None = None
halt_in rules L (Some w) = first_halt w.n 0 w.txns (all_standings rules w L)

-- where the log is split: the halt of its current block, agents and tau being those in force there
abbrev pub split : Rules → ℕ → Log → Option Halt
split rules me L = halt_in (in_force rules (completed rules me (length (ledger rules me L)) L)) L (current rules me L)

-- the log is split
abbrev pub is_split : Rules → ℕ → Log → Bool
is_split rules me L = is_some (split rules me L)

-- the log up to its shortest split prefix, where it has one: what comes later changes nothing
abbrev pub heard : Rules → ℕ → Log → Log
heard rules me [] = []
heard rules me (e ∷ L) = if is_split rules me (heard rules me L) then heard rules me L else e ∷ heard rules me L

-- what a peer holds where it is halted
abbrev pub halt : Rules → ℕ → Log → Option Halt
halt rules me L = split rules me (heard rules me L)

-- the block that is accepted after m completed blocks
abbrev pub accepted_at : Rules → ℕ → ℕ → Log → Option Block
accepted_at rules me m L = accepted_after rules m (completed rules me m L) L
