-- One block and one entry of the log: what is found, voted, held and cut.
use Rattle.std.specs.Prelude.{ℕ, zero, suc, ◌≡◌, ◌<◌, ◌==◌, Bool, false, ◌&&◌, not, if◌then◌else◌, List, [], ◌∷◌, ◌++◌, map, reverse, replicate, filter, get_or, length, nat_lt, Option, Some, None, is_some, unwrap_or}
use Rattle.std.specs.FinMap as map
use Rattle.txn_types.specs.Fitting.{is_fit}
use Rattle.txn_types.specs.declared.txn.Outcome.{Outcome}
use Rattle.txn_types.specs.declared.txn.Txn.{Txn}
use Rattle.txn_types.specs.declared.block.Block.{Block}
use Rattle.txn_types.specs.declared.message.Vote.{Vote}
use Rattle.txn_types.specs.declared.message.Commit.{Commit}
use Rattle.oxii_defs.specs.State.{State, contains}
use Rattle.known_defs.specs.Known.{txn_at, no_outcome, after_known, knows_all}
use Rattle.node_defs.specs.Same.{same_outcome}
use Rattle.node_defs.specs.Counting.{first_of_each, first_to_reach}
use Rattle.node_defs.specs.Rules.{Rules, in_force}
use Rattle.node_defs.specs.Log.{Log, votes_in}
use Rattle.node_defs.specs.Position.{Work, Standing, standings, ballots, is_agent}
use Rattle.node_defs.specs.Ledger.{completed, work_on, all_standings, accepted_at}
use Rattle.node_defs.specs.Sent.{run_order, held, is_cut, vote_on}

-- the votes on a position of a block, the latest first
abbrev pub Casts : Type 0
Casts = ℕ → ℕ → List (ℕ × Outcome)

-- what others said on position t of block n, the latest first
abbrev pub said : Rules → ℕ → ℕ → ℕ → Log → List (ℕ × Outcome)
said rules me n t [] = []
said rules me n t (e ∷ L) = votes_in rules me n t e ++ said rules me n t L

-- the rules in force after the first m blocks
abbrev pub force_at : Rules → ℕ → ℕ → Log → Rules
force_at rules me m L = in_force rules (completed rules me m L)

-- the block after the first m as the peer works on it
abbrev pub work_at : Rules → ℕ → ℕ → Log → Block → Work
work_at rules me m L b = work_on rules me m (completed rules me m) L b

-- the votes on position t of the block after the first m: once it is accepted, with this peer's own
abbrev pub votes_with : Rules → ℕ → ℕ → ℕ → Log → Option Block → List (ℕ × Outcome)
votes_with rules me m t L None = said rules me (suc m) t L
votes_with rules me m t L (Some b) =
    if nat_lt t (length b.txns)
    then ballots (force_at rules me m L) (work_at rules me m L b) t (standings (force_at rules me m L) (work_at rules me m L b) t) L
    else said rules me (suc m) t L

-- the votes on position t of the block after the first m
abbrev pub votes_behind : Rules → ℕ → ℕ → ℕ → Log → List (ℕ × Outcome)
votes_behind rules me m t L = votes_with rules me m t L (accepted_at rules me m L)

-- the block in work: what is known of each position, and the votes that are held back, in order
pub record InWork : Type 0 where
  pub block : Block
  pub known : List (Option Outcome)
  pub held : List Vote

-- the block in work as it is kept, where there is one
abbrev pub open_with : Rules → ℕ → ℕ → Log → Option Block → Option InWork
open_with rules me m L None = None
open_with rules me m L (Some b) = Some (record {
  block = b;
  known = map (λ s. s.believed) (all_standings (force_at rules me m L) (work_at rules me m L b) L);
  held = reverse (map (vote_on (all_standings (force_at rules me m L) (work_at rules me m L b) L)) (held (force_at rules me m L) (work_at rules me m L b) (run_order (force_at rules me m L) (work_at rules me m L b) L)));
})

-- the block after the first m as it is kept
abbrev pub open_at : Rules → ℕ → ℕ → Log → Option InWork
open_at rules me m L = open_with rules me m L (accepted_at rules me m L)

-- the block in work before this entry: as it was, or new
abbrev pub taken_up : Block → Option InWork → InWork
taken_up b None = record { block = b; known = replicate (length b.txns) None; held = [] }
taken_up b (Some o) = o

-- WHAT IS FOUND

-- what is agreed on a transaction by these votes
abbrev pub agreed_in : Rules → Txn → List (ℕ × Outcome) → Option Outcome
agreed_in rules txn votes =
    first_to_reach same_outcome (rules.tau txn.app) (filter (is_fit txn) (map (λ v. v.1) (filter (λ v. contains (rules.agents txn.app) v.0) (first_of_each votes))))

-- what the rules give a position, by what they give the positions before it and what votes agree
abbrev pub found_one : Rules → ℕ → List Txn → State → Option Outcome → Txn → List (Option Outcome) → Option Outcome
found_one rules me txns base votes txn earlier =
    if knows_all rules.table.kind txn txns earlier
    then (if is_agent rules me txn then Some (rules.outcome (after_known base txns earlier) txn) else votes)
    else None

-- what the rules give the first t positions of a block, where `votes` is agreed by votes
abbrev pub found_upto : Rules → ℕ → List Txn → State → (ℕ → Option Outcome) → ℕ → List (Option Outcome)
found_upto rules me txns base votes zero = []
found_upto rules me txns base votes (suc t) =
    found_upto rules me txns base votes t ++ found_one rules me txns base (votes t) (txn_at txns t) (found_upto rules me txns base votes t) ∷ []

-- what the votes on block n agree on position t
abbrev pub votes_found : Rules → Block → ℕ → Casts → ℕ → Option Outcome
votes_found rules b n cast t = agreed_in rules (txn_at b.txns t) (cast n t)

-- THIS PEER'S VOTES

-- this peer's own vote, where a position has just run
abbrev pub own_vote : Rules → ℕ → Txn → Option Outcome → Option Outcome → List (ℕ × Outcome)
own_vote rules me txn before None = []
own_vote rules me txn before (Some o) = if is_agent rules me txn && not (is_some before) then (me, o) ∷ [] else []

-- so on position t of a block
abbrev pub own_at : Rules → ℕ → Block → List (Option Outcome) → List (Option Outcome) → ℕ → List (ℕ × Outcome)
own_at rules me b before after t =
    if nat_lt t (length b.txns) then own_vote rules me (txn_at b.txns t) (get_or before t None) (get_or after t None) else []

-- own votes are put on the block numbered n, and nothing else
pub record VotesPut (rules : Rules) (me : ℕ) (b : Block) (n : ℕ) (before after : List (Option Outcome)) (old new : Casts) : Type 0 where
  pub here : (t : ℕ) → new n t ≡ own_at rules me b before after t ++ old n t
  pub others : (k t : ℕ) → (k == n) ≡ false → new k t ≡ old k t

-- WHAT IS CUT

-- position t is this peer's and known
abbrev pub has_run : Rules → ℕ → List Txn → List (Option Outcome) → ℕ → Bool
has_run rules me txns known t = is_agent rules me (txn_at txns t) && is_some (get_or known t None)

-- of the first t positions those that have just run, the last of them first
abbrev pub just_ran : Rules → ℕ → List Txn → List (Option Outcome) → List (Option Outcome) → ℕ → List ℕ
just_ran rules me txns before after zero = []
just_ran rules me txns before after (suc t) =
    if has_run rules me txns after t && not (is_some (get_or before t None))
    then t ∷ just_ran rules me txns before after t
    else just_ran rules me txns before after t

-- what is cut while `new` is added to `old`, the latest first
abbrev pub cuts_made : Rules → Work → List ℕ → List ℕ → List (List ℕ)
cuts_made rules w [] old = []
cuts_made rules w (t ∷ new) old = if is_cut rules w (t ∷ (new ++ old)) then (t ∷ held rules w (new ++ old)) ∷ cuts_made rules w new old else cuts_made rules w new old

-- the vote on t, by what is known
abbrev pub vote_of : List (Option Outcome) → ℕ → Vote
vote_of known t = record { t = t; outcome = unwrap_or (get_or known t None) no_outcome }

-- the COMMIT of a batch
abbrev pub cut_of : ℕ → List (Option Outcome) → List ℕ → Commit
cut_of n known batch = record { n = n; votes = map (vote_of known) (reverse batch) }

-- a block as far as cutting looks at it
abbrev pub plain : ℕ → List Txn → Work
plain me txns = record { me = me; n = 0; txns = txns; base = map.empty; opens = λ K. false }

-- what has just run is held, and cut where a cut follows, whatever ran before
pub record CutsMade (rules : Rules) (me n : ℕ) (b : Block) (before after : List (Option Outcome)) (order : List ℕ) (held_new : List Vote) (sent_old sent_new : List Commit) : Type 0 where
  pub holds : held_new ≡ reverse (map (vote_of after) (held rules (plain me b.txns) (just_ran rules me b.txns before after (length b.txns) ++ order)))
  pub commits : sent_new ≡ sent_old ++ map (cut_of n after) (reverse (cuts_made rules (plain me b.txns) (just_ran rules me b.txns before after (length b.txns)) order))

-- `order` has just the positions that ran
abbrev pub IsOrder : Rules → ℕ → Block → List (Option Outcome) → List ℕ → Type 0
IsOrder rules me b known order = (t : ℕ) → t < length b.txns → contains order t ≡ has_run rules me b.txns known t

-- what holding and cutting makes, for each order of what ran before
abbrev pub Cut : Rules → ℕ → ℕ → Block → List (Option Outcome) → List (Option Outcome) → List Vote → List Vote → List Commit → List Commit → Type 0
Cut rules me n b before after held_old held_new sent_old sent_new =
    (order : List ℕ) → IsOrder rules me b before order → held_old ≡ reverse (map (vote_of after) (held rules (plain me b.txns) order)) →
    CutsMade rules me n b before after order held_new sent_old sent_new

-- HOW THE POSITIONS STAND

-- how a position stands, by what is known and agreed
abbrev pub shown_one : Rules → ℕ → Txn → Option Outcome → Option Outcome → Standing
shown_one rules me txn known agreed = record { ran = is_agent rules me txn && is_some known; agreed = agreed; believed = known }

-- so of the first t positions
abbrev pub shown : Rules → ℕ → List Txn → List (Option Outcome) → (ℕ → List (ℕ × Outcome)) → ℕ → List Standing
shown rules me txns known votes zero = []
shown rules me txns known votes (suc t) =
    shown rules me txns known votes t ++ shown_one rules me (txn_at txns t) (get_or known t None) (agreed_in rules (txn_at txns t) (votes t)) ∷ []
