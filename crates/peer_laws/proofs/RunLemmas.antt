-- The runs of one delivery, as those of its blocks
use Rattle.std.specs.Prelude.{ℕ, ◌≤◌, ◌≡◌, false, cond, List, [], ◌∷◌, length, Option, Some, None, is_some, zero, suc, refl}
use Rattle.std.specs.List.{list_all}
use Rattle.std.proofs.Common.{sym, ◌∙◌, ap, arith}
use Rattle.node_laws.proofs.Growing.{ledger_grows, after_keeps, all_known}
use Rattle.node_laws.proofs.Settle.{beliefs_at}
use Rattle.node_laws.proofs.Whole.{few_blocks}
use Rattle.node_defs.specs.Ledger.{accepted_at, completed, heard, is_agreed, is_split, ledger, ledger_state}
use Rattle.node_defs.specs.Log.{Letter, Log}
use Rattle.node_defs.specs.Position.{Work}
use Rattle.node_defs.specs.Rules.{IsLocal, Rules, in_force}
use Rattle.oxii_defs.specs.Lines.{Entry}
use Rattle.txn_types.specs.declared.block.Block.{Block}
use Rattle.txn_types.specs.declared.message.Commit.{Commit}
use Rattle.txn_types.specs.declared.txn.Outcome.{Outcome}
use Rattle.peer_laws.specs.Delivery.{Midway, Worked}
use Rattle.peer_laws.specs.Runs.{listed, runs, runs_in, runs_of, runs_upto, runs_with}
use Rattle.peer_laws.specs.Turns.{Casts, InWork, force_at, found_upto, just_ran, taken_up, votes_found, work_at}
use Rattle.peer_laws.proofs.Above.{above_none, ledger_stuck}
use Rattle.peer_laws.proofs.Done.{finished, less_full, nothing_new, stood}
use Rattle.peer_laws.proofs.Exits.{all_upto, none_behind, not_closed, room}
use Rattle.peer_laws.proofs.Steps.{taken_up_is, work_from}
use Rattle.peer_laws.proofs.Turn.{newly_is}
use Rattle.peer_laws.proofs.Work.{found_here}

-- of a block that the shorter log completed nothing runs
no_runs_of : (rules : Rules) → IsLocal rules → (me m : ℕ) (e : Letter) (L : Log) → length (completed rules me (suc m) L) ≡ suc m → runs_in rules me m e L ≡ []
no_runs_of rules l me m e L h =
    let f = finished rules me m L h in
    let b = f.0 in
    let g = after_keeps rules me m (ledger_grows rules l me m) e L b f.1 in
    let r = force_at rules me m L in
    let w = work_at rules me m L b in
    let known = all_known r w (length b.txns) L (ap is_some f.1) f.2 in
    ap (runs_with rules me m e L) g.0 ∙ (ap (λ ds. runs_of (in_force rules ds) (work_from rules me m b ds) e L) g.1
    ∙ ap (listed (suc m) b.txns) (nothing_new r w e L known (length b.txns) (omega arith)))

-- of what a log has completed nothing runs
pub no_runs : (rules : Rules) → IsLocal rules → (me m : ℕ) (e : Letter) (L : Log) → length (completed rules me m L) ≡ m → runs_upto rules me m e L ≡ []
no_runs rules l me zero e L h = refl
no_runs rules l me (suc m) e L h = rw (no_runs rules l me m e L (less_full rules me m L h)) (no_runs_of rules l me m e L h)

-- where nothing is accepted from block m + 1 on, the runs of the first m blocks are all
pub runs_at : (rules : Rules) (me m : ℕ) (e : Letter) (L : Log) → ((j : ℕ) → m ≤ j → accepted_at rules me j (e ∷ L) ≡ None) → m ≤ length (e ∷ L) → is_split rules me (heard rules me L) ≡ false → runs_upto rules me m e L ≡ runs rules me (e ∷ L)
runs_at rules me m e L none l calm =
    all_upto (λ n. runs_upto rules me n e L) (λ n. runs_in rules me n e L) (λ k. refl) m (length (e ∷ L)) (λ j g. ap (runs_with rules me j e L) (none j g)) l
    ∙ sym (ap (λ b. cond b [] (runs_upto rules me (length (e ∷ L)) e L)) calm)

-- before a delivery nothing has run
pub runs_start : (rules : Rules) → IsLocal rules → (me : ℕ) (e : Letter) (L : Log) → runs_upto rules me (length (ledger rules me L)) e L ≡ []
runs_start rules l me e L = no_runs rules l me (length (ledger rules me L)) e L (ledger_stuck rules me L).full

-- what has just run of the block in work are its runs
pub runs_here : (rules : Rules) → IsLocal rules → (me m : ℕ) (e : Letter) (L : Log) (b : Block) (cast : Casts) (done : List Entry) (work : Option InWork) (commits : List Commit) (known2 : List (Option Outcome))
    → accepted_at rules me m (e ∷ L) ≡ Some b → Midway rules me m e L cast done work commits
    → known2 ≡ found_upto (in_force rules done) me b.txns (ledger_state rules done) (votes_found (in_force rules done) b (suc m) cast) (length b.txns)
    → runs_in rules me m e L ≡ listed (suc m) b.txns (just_ran (in_force rules done) me b.txns (taken_up b work).known known2 (length b.txns))
runs_here rules l me m e L b cast done work commits known2 k mid found2 =
    ap (runs_with rules me m e L) k ∙ ap (listed (suc m) b.txns) (newly_is r w e L (length b.txns) (omega arith) ∙ sym now)
  where
    r : Rules
    r = force_at rules me m (e ∷ L)

    w : Work
    w = work_at rules me m (e ∷ L) b

    before : (taken_up b work).known ≡ beliefs_at r w L (length b.txns)
    before = ap (λ (o : InWork). o.known) (ap (taken_up b) mid.opened ∙ taken_up_is rules l me m e L b k)

    after : known2 ≡ beliefs_at r w (e ∷ L) (length b.txns)
    after = found2 ∙ found_here rules l me m e L b cast done work commits k mid

    now : just_ran (in_force rules done) me b.txns (taken_up b work).known known2 (length b.txns) ≡ just_ran r me b.txns (beliefs_at r w L (length b.txns)) (beliefs_at r w (e ∷ L) (length b.txns)) (length b.txns)
    now = ap (λ ds. just_ran (in_force rules ds) me b.txns (taken_up b work).known known2 (length b.txns)) mid.blocks
        ∙ (ap (λ ks. just_ran r me b.txns ks known2 (length b.txns)) before ∙ ap (λ ks. just_ran r me b.txns (beliefs_at r w L (length b.txns)) ks (length b.txns)) after)

-- where nothing more is accepted, all has run
pub runs_end : (rules : Rules) (me m : ℕ) (e : Letter) (L : Log) (cast : Casts) (done : List Entry) (work : Option InWork) (commits : List Commit)
    → Midway rules me m e L cast done work commits → accepted_at rules me m (e ∷ L) ≡ None → is_split rules me (heard rules me L) ≡ false
    → runs_upto rules me m e L ≡ runs rules me (e ∷ L)
runs_end rules me m e L cast done work commits mid h calm = runs_at rules me m e L (none_behind rules me m e L mid.full h) (few_blocks rules me m (e ∷ L) mid.full) calm

-- so where the block in work isn't completed
pub runs_left : (rules : Rules) (me m : ℕ) (e : Letter) (L : Log) (b : Block) (cast : Casts) (done : List Entry) (work : InWork) (commits : List Commit)
    → Worked rules me m e L b cast done work commits → list_all is_agreed (stood rules me m (e ∷ L) b) ≡ false → is_split rules me (heard rules me L) ≡ false
    → runs_upto rules me (suc m) e L ≡ runs rules me (e ∷ L)
runs_left rules me m e L b cast done work commits wk h calm =
    runs_at rules me (suc m) e L (λ j g. above_none rules me m (e ∷ L) (not_closed rules me m e L b cast done work commits wk h) j (omega arith)) (room rules me m (e ∷ L) b wk.full wk.accepted) calm
