-- Around the turns of one delivery.
use Rattle.std.specs.Prelude.{ℕ, ◌≡◌, Bool, true, false, cond, List, [], ◌∷◌, length, get_or, Option, Some, None, suc, refl}
use Rattle.std.proofs.Common.{sym, ◌∙◌, ap}
use Rattle.std.proofs.lemmas.Bool.{true≢false}
use Rattle.node_laws.proofs.Growing.{ledger_grows, stays_open, standings_keep, within_beliefs}
use Rattle.node_laws.proofs.Settle.{beliefs_at, within_at}
use Rattle.peer_laws.proofs.Steps.{taken_up_is}
use Rattle.peer_laws.proofs.Work.{found_here}
use Rattle.node_defs.specs.Ledger.{heard, is_split, ledger_state, accepted_at}
use Rattle.node_defs.specs.Log.{Letter, Log}
use Rattle.node_defs.specs.Position.{standings}
use Rattle.node_defs.specs.Rules.{IsLocal, Rules, in_force}
use Rattle.node_defs.specs.Sent.{sent, sent_upto}
use Rattle.oxii_defs.specs.Lines.{Entry}
use Rattle.peer_laws.specs.Delivery.{Midway}
use Rattle.peer_laws.specs.Turns.{Casts, InWork, force_at, found_upto, taken_up, votes_found, work_at}
use Rattle.txn_types.specs.declared.block.Block.{Block}
use Rattle.txn_types.specs.declared.message.Commit.{Commit}
use Rattle.txn_types.specs.declared.txn.Outcome.{Outcome}

-- what was known of the block is found again
pub known_sound : (rules : Rules) → IsLocal rules → (me m : ℕ) (e : Letter) (L : Log) (b : Block) (cast : Casts) (done : List Entry) (work : Option InWork) (commits : List Commit)
    → accepted_at rules me m (e ∷ L) ≡ Some b → Midway rules me m e L cast done work commits → (t : ℕ) (o : Outcome) → get_or (taken_up b work).known t None ≡ Some o
    → get_or (found_upto (in_force rules done) me b.txns (ledger_state rules done) (votes_found (in_force rules done) b (suc m) cast) (length b.txns)) t None ≡ Some o
known_sound rules l me m e L b cast done work commits k mid t o h =
    let r = force_at rules me m (e ∷ L) in
    let w = work_at rules me m (e ∷ L) b in
    let op = stays_open rules me m (ledger_grows rules l me m) (e ∷ L) b in
    let was = ap (taken_up b) mid.opened ∙ taken_up_is rules l me m e L b k in
    let before : (taken_up b work).known ≡ beliefs_at r w L (length b.txns) = ap (λ (x : InWork). x.known) was in
    ap (λ (xs : List (Option Outcome)). get_or xs t None) (found_here rules l me m e L b cast done work commits k mid)
    ∙ within_at (beliefs_at r w L (length b.txns)) (beliefs_at r w (e ∷ L) (length b.txns)) t o (within_beliefs (standings r w (length b.txns) L) (standings r w (length b.txns) (e ∷ L)) (standings_keep r l w op (length b.txns) e L))
    (ap (λ (xs : List (Option Outcome)). get_or xs t None) (sym before) ∙ h)

-- a log that isn't split was heard as a whole
pub hears : (rules : Rules) (me : ℕ) (L : Log) → is_split rules me (heard rules me L) ≡ false → heard rules me L ≡ L
hears rules me [] h = refl
hears rules me (e ∷ L) h = one (is_split rules me (heard rules me L)) refl h (λ q. hears rules me L q)
  where
    one : (b : Bool) → is_split rules me (heard rules me L) ≡ b → is_split rules me (cond b (heard rules me L) (e ∷ heard rules me L)) ≡ false → (is_split rules me (heard rules me L) ≡ false → heard rules me L ≡ L) → cond b (heard rules me L) (e ∷ heard rules me L) ≡ e ∷ L
    one true q k more = absurd (true≢false (sym q ∙ k))
    one false q k more = ap (λ K. e ∷ K) (more q)

-- a halted peer hears nothing more, and sends nothing
pub deaf : (rules : Rules) (me : ℕ) (e : Letter) (L : Log) → is_split rules me (heard rules me L) ≡ true → (heard rules me (e ∷ L) ≡ heard rules me L) × (sent rules me (e ∷ L) ≡ [])
deaf rules me e L h = (ap (λ b. cond b (heard rules me L) (e ∷ heard rules me L)) h, ap (λ b. cond b [] (sent_upto rules me (length (e ∷ L)) e L)) h)

-- one that isn't hears the message
pub hears_more : (rules : Rules) (me : ℕ) (e : Letter) (L : Log) → is_split rules me (heard rules me L) ≡ false → heard rules me (e ∷ L) ≡ e ∷ L
hears_more rules me e L h = ap (λ b. cond b (heard rules me L) (e ∷ heard rules me L)) h ∙ ap (λ K. e ∷ K) (hears rules me L h)
