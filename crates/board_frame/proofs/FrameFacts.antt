-- What the calls of a frame owe.
use Rattle.std.proofs.Common.{◌≡◌, ℕ, suc, ◌<◌, ◌≤◌, ◌||◌, List, [], ◌∷◌, length, map, take, get_or, sym, refl, ap, ◌∙◌, subst, arith, false, true, Bool}
use Rattle.std.proofs.lemmas.List.{get_or_default}
use Rattle.std.proofs.lemmas.Bool.{and_parts, or_left, or_right}
use Rattle.std.specs.Prelude.{is_some}
use Rattle.txn_types.specs.declared.txn.Txn.{Txn}
use Rattle.txn_types.specs.Values.{max_value}
use Rattle.oxii_defs.specs.State.{value_in, contains}
use Rattle.known_defs.specs.Known.{txn_at}
use Rattle.board_defs.specs.Closure.{Plan, IsLawfulPlan, is_own}
use Rattle.board_core.specs.declared.view.View.{View}
use Rattle.board_core.specs.Counts.{times}
use Rattle.board_core.specs.Script.{Uses, serial_value, Script, IsSound}
use Rattle.board_core.specs.Parts.{Counts}
use Rattle.board_core.specs.Passes.{IsHeld, IsSettled}
use Rattle.board_words.specs.Filled.{AreRows}
use Rattle.board_steps.specs.Abouts.{told}
use Rattle.txn_types.specs.Rising.{IsRising}
use Rattle.board_frame.specs.Frames.{IsPassOf, Standing}
use Rattle.board_frame.specs.Seen.{Seen}
use Rattle.board_work.specs.Scripts.{script, reads_at, writes_at, outcome_at, meant_at, state_before, uses_at, AreHeld}
use Rattle.script_laws.proofs.Sound.{own_below, used_below, runs_comes}
use Rattle.txn_types.specs.declared.txn.Outcome.{Outcome}
use Rattle.std.specs.Prelude.{Some}
use Rattle.script_laws.proofs.States.{serial_is}
use Rattle.script_laws.proofs.Fitted.{state_ok, value_small}
use Rattle.board_steps.proofs.PartFacts.{contains_at}

-- a position that is held is an own one
pub held_own : (plan : Plan) (v : View) (t : ℕ) → IsSettled (script plan) v → IsHeld v t → is_own plan t ≡ true
held_own plan v t settled held = (and_parts (is_own plan t) (is_some (outcome_at plan t)) (settled.runs t held.begun)).0

pub held_below : (plan : Plan) (v : View) (t : ℕ) → IsLawfulPlan plan → IsSettled (script plan) v → IsHeld v t → t < length plan.txns
held_below plan v t h settled held = own_below plan h t (held_own plan v t settled held)

-- what holds of the plan of a board holds of the plan of its passes
pub settled_by : (plan mine : Plan) (v : View) → mine ≡ plan → IsSettled (script mine) v → IsSettled (script plan) v
settled_by plan mine v e settled = subst (λ z. IsSettled (script z) v) e settled

-- boards that are one have one plan
pub plan_is : (a b : Standing) → a ≡ b → told a.about ≡ told b.about
plan_is a b e = ap (λ z. told z.about) e

-- a pass of a board has the plan that the board's words are for
pub pass_plan : (a b : Standing) (p q : Seen) → p ≡ q → IsPassOf b q → a ≡ b → told p.about ≡ told a.about
pass_plan a b p q pass of board = ap (λ z. told z.about) pass ∙ (of.plan ∙ sym (plan_is a b board))

pub read_of : (plan : Plan) (t k : ℕ) (rs : List ℕ) → IsLawfulPlan plan → rs ≡ reads_at plan t → k < length rs → (get_or rs k 0 < length plan.table.records) × Uses (script plan) t (get_or rs k 0)
read_of plan t k rs h e l =
    let u : uses_at plan t (get_or rs k 0) ≡ true = or_left (contains (reads_at plan t) (get_or rs k 0)) (contains (writes_at plan t) (get_or rs k 0)) (subst (λ xs. contains xs (get_or rs k 0) ≡ true) e (contains_at rs k l)) in
    (used_below plan h t (get_or rs k 0) u, u)

pub write_of : (plan : Plan) (t k : ℕ) (ws : List ℕ) → IsLawfulPlan plan → ws ≡ writes_at plan t → k < length ws → get_or ws k 0 < length plan.table.records
write_of plan t k ws h e l = used_below plan h t (get_or ws k 0) (or_right (contains (reads_at plan t) (get_or ws k 0)) (contains (writes_at plan t) (get_or ws k 0)) (subst (λ xs. contains xs (get_or ws k 0) ≡ true) e (contains_at ws k l)))

each_is : (f : ℕ → ℕ) (rs out : List ℕ) → length rs ≤ length out → ((k : ℕ) → k < length rs → get_or out k 0 ≡ f (get_or rs k 0)) → take (length rs) out ≡ map f rs
each_is f [] out l h = refl
each_is f (r ∷ rs) [] l h = absurd (omega arith)
each_is f (r ∷ rs) (x ∷ out) l h = (λ i. h 0 (omega arith) i ∷ each_is f rs out (omega arith) (λ k lk. h (suc k) (omega arith)) i)

-- the values that were loaded are those of the state in which t runs
pub inputs_are : (plan : Plan) (t : ℕ) (rs out : List ℕ) → t < length plan.txns → rs ≡ reads_at plan t → length rs ≤ length out → ((k : ℕ) → k < length rs → get_or out k 0 ≡ serial_value (script plan) t (get_or rs k 0)) →
    take (length (reads_at plan t)) out ≡ map (value_in (state_before plan t)) (reads_at plan t)
inputs_are plan t rs out l e long h = subst (λ xs. take (length xs) out ≡ map (value_in (state_before plan t)) xs) e
    (each_is (value_in (state_before plan t)) rs out long (λ k lk. h k lk ∙ sym (serial_is plan t (get_or rs k 0) (omega arith))))

pub inputs_small : (plan : Plan) (t : ℕ) (rs out : List ℕ) → IsLawfulPlan plan → t < length plan.txns → rs ≡ reads_at plan t → ((k : ℕ) → k < length rs → get_or out k 0 ≡ serial_value (script plan) t (get_or rs k 0)) →
    (k : ℕ) → k < length (reads_at plan t) → get_or out k 0 ≤ max_value
inputs_small plan t rs out h l e each k lk =
    let len = ap length e in
    let is = each k (omega arith) ∙ sym (serial_is plan t (get_or rs k 0) (omega arith)) in
    let small = value_small (state_before plan t) (get_or rs k 0) (state_ok plan h t (omega arith)) in omega arith

-- a held position comes to what its operation means
pub held_comes : (plan : Plan) (v : View) (t : ℕ) → IsLawfulPlan plan → IsSettled (script plan) v → IsHeld v t → outcome_at plan t ≡ Some (meant_at plan t)
held_comes plan v t h settled held = runs_comes plan h t (settled.runs t held.begun)

-- the records that the transaction at t reads, and writes, where the words are for this plan
pub reads_there : (key plan : Plan) (t : ℕ) (x : Txn) (rs : List ℕ) → key ≡ plan → IsLawfulPlan key → x ≡ txn_at plan.txns t → rs ≡ x.reads → (k : ℕ) → k < length rs → (get_or rs k 0 < length key.table.records) × Uses (script key) t (get_or rs k 0)
reads_there key plan t x rs same h is row k l = read_of key t k rs h (row ∙ (ap (λ (y : Txn). y.reads) is ∙ sym (ap (λ (z : Plan). reads_at z t) same))) l

pub writes_there : (key plan : Plan) (t : ℕ) (x : Txn) (ws : List ℕ) → key ≡ plan → IsLawfulPlan key → AreHeld key → x ≡ txn_at plan.txns t → ws ≡ x.writes → (ws ≡ writes_at key t) × IsRising ws × ((k : ℕ) → k < length ws → get_or ws k 0 < length key.table.records)
writes_there key plan t x ws same h held is row =
    let all : ws ≡ writes_at key t = row ∙ (ap (λ (y : Txn). y.writes) is ∙ sym (ap (λ (z : Plan). writes_at z t) same)) in
    (all, subst IsRising (sym all) (held.rising t), λ k l. write_of key t k ws h all l)

-- an outcome that is meant, where the words are for this plan
pub meant_there : (key plan : Plan) (t : ℕ) (o : Outcome) → key ≡ plan → outcome_at plan t ≡ Some (meant_at plan t) → o ≡ meant_at plan t → outcome_at key t ≡ Some o
meant_there key plan t o same comes e = ap (λ z. outcome_at z t) same ∙ (comes ∙ ap Some (sym e))

-- what became a duty stands in the row, so it is an own position
pub made_is_own : (p : Script) (t : ℕ) (row made : List ℕ) (c w : View) → IsSound p → ((y : ℕ) → times y row ≡ p.edge t y) → Counts row t c w [] made → (y : ℕ) → 0 < times y made → p.own y ≡ true
made_is_own p t row made c w sound edges counts y pos = let a = counts.made_of y in let b = edges y in (sound.edge_is_forward t y (omega arith)).1

-- the row at a place
pub row_there : (plan : Plan) (t : ℕ) (rows all : List (List ℕ)) (x row : List ℕ) → AreRows plan rows → all ≡ rows → row ≡ x → x ≡ get_or all t x → t < length plan.txns → (length row ≤ 256) × ((y : ℕ) → times y row ≡ (script plan).edge t y)
row_there plan t rows all x row h e is at l =
    let long = h.long in
    let same : row ≡ get_or rows t [] = is ∙ (at ∙ (ap (λ ys. get_or ys t x) e ∙ get_or_default rows t x [] (omega arith))) in
    (subst (λ (r : List ℕ). length r ≤ 256) (sym same) (h.short t), λ y. ap (times y) same ∙ h.edges t y l)

-- a row, where the words are for this plan
pub row_by : (key plan : Plan) (t : ℕ) (row : List ℕ) → key ≡ plan → ((y : ℕ) → times y row ≡ (script plan).edge t y) → (y : ℕ) → times y row ≡ (script key).edge t y
row_by key plan t row same edges y = edges y ∙ sym (ap (λ (z : Plan). (script z).edge t y) same)
