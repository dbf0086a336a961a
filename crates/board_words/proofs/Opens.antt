-- How a board begins: the rows, the needs, and the words that a plan fills in.
use Rattle.std.proofs.Common.{◌≡◌, ◌≢◌, ℕ, zero, suc, Bool, true, false, cond, eqb, eq-eqb, eqb-true, ◌&&◌, ◌||◌, ◌+◌, ◌-◌, ◌*◌, ◌<◌, ◌≤◌, inl, ⊎_elim, List, [], ◌∷◌, ◌++◌, length, replicate, take, get_or, sym, refl, ap, ◌∙◌, subst, arith}
use Rattle.std.specs.Prelude.{is_some, not, nat_lt}
use mathlib.Core.Option.{some, some-injective, some-ne-none}
use mathlib.Core.Logic.{dite}
use native.Mathlib.Decide.{ℕ_discrete, dec_lt}
use lib.ListN.{get_elem?}
use Rattle.std.proofs.lemmas.List.{append-nil, get_or-take, get_or_append_left, get_or_past, length-append, length-take-le}
use Rattle.std.proofs.Math.Seq.{get_or-append_seam}
use Rattle.std.proofs.lemmas.Bool.{false≢true, ltb-true, lt-ltb, le-ltb, and_left, and_right, and_parts, and_from, cases_lt, ne_eqb}
use Rattle.atomic_table.specs.Table.{opening}
use Rattle.txn_types.specs.declared.txn.Kind.{Kind}
use Rattle.txn_types.specs.declared.txn.Txn.{Txn}
use Rattle.oxii_defs.specs.State.{contains}
use Rattle.oxii_defs.specs.Dependency.{depends, preds_from, graph_after, graph_of}
use Rattle.known_defs.specs.Known.{txn_at, no_txn}
use Rattle.board_defs.specs.Closure.{Plan, IsLawfulPlan, is_own, known_at}
use Rattle.board_core.specs.declared.view.View.{View}
use Rattle.board_core.specs.Counts.{once_below, below, times}
use Rattle.board_core.specs.Words.{clock, need, need_at, turn, part, value}
use Rattle.board_core.specs.Script.{Script, IsOwn, IsSound, IsAfter}
use Rattle.board_core.specs.Rule.{Apart, Holds, Fixed}
use Rattle.board_core.specs.Steps.{first_view, planned, ready_below}
use Rattle.board_core.specs.Passes.{AreFlags}
use Rattle.board_core.specs.Traces.{one_if}
use Rattle.board_core.proofs.Totals.{hit_same, hit_else, hits, times-noted, times-append, extra, extra_is, extra_yes, below_zero}
use Rattle.board_core.proofs.Cells.{after_same}
use Rattle.board_work.specs.Scripts.{AreHeld, script, script_of, outcome_at, word_of, waits, is_edge, writes_at}
use Rattle.script_laws.specs.Laws.{IsPlanFor}
use Rattle.board_work.specs.declared.layout.Layout.{Layout}
use Rattle.board_work.specs.declared.layout.Layout.TheVariants.{Values, Versions}
use Rattle.board_steps.specs.Abouts.{HasRoom}
use Rattle.script_laws.proofs.Sound.{sound_for, own_below, edge_is, known_is}
use Rattle.board_words.specs.Filled.{AreRows, IsFilled}
use Rattle.board_steps.proofs.PartFacts.{one_most}
use Rattle.board_core.proofs.Closing.{same_below}
use Rattle.script_laws.proofs.Starts.{starts}
use Rattle.trace_laws.proofs.Entries.{all_same}

-- THE GRAPH'S LISTS

graph_step : (kind : Kind) (before xs : List Txn) (t : ℕ) → t < length xs → get_or (graph_after kind before xs) t [] ≡ preds_from kind (get_or xs t no_txn) 0 (before ++ take t xs)
graph_step kind before [] t l = absurd (omega arith)
graph_step kind before (x ∷ xs) zero l = ap (preds_from kind x 0) (sym (append-nil before))
graph_step kind before (x ∷ xs) (suc t) l = graph_step kind (before ++ x ∷ []) xs t (omega arith) ∙ ap (preds_from kind (get_or xs t no_txn) 0) (assoc before x (take t xs))
  where
    assoc : (ys : List Txn) (x : Txn) (zs : List Txn) → (ys ++ x ∷ []) ++ zs ≡ ys ++ x ∷ zs
    assoc [] x zs = refl
    assoc (y ∷ ys) x zs = ap (λ us. y ∷ us) (assoc ys x zs)

later_place : (kind : Kind) (t : Txn) (i s : ℕ) (xs : List Txn) → s < i → contains (preds_from kind t i xs) s ≡ false
later_place kind t i s [] l = refl
later_place kind t i s (x ∷ xs) l = go (depends kind x t) (later_place kind t (suc i) s xs (omega arith))
  where
    go : (b : Bool) → contains (preds_from kind t (suc i) xs) s ≡ false → contains (cond b (i ∷ preds_from kind t (suc i) xs) (preds_from kind t (suc i) xs)) s ≡ false
    go true h = ap (λ b. b || contains (preds_from kind t (suc i) xs) s) (ne_eqb s i (λ e. absurd (omega arith))) ∙ h
    go false h = h

-- a place stands in the list exactly where the transaction depends on it
stands_where : (kind : Kind) (t : Txn) (i s : ℕ) (xs : List Txn) → s < length xs → contains (preds_from kind t i xs) (i + s) ≡ depends kind (get_or xs s no_txn) t
stands_where kind t i s [] l = absurd (omega arith)
stands_where kind t i zero (x ∷ xs) l = go (depends kind x t) refl
  where
    go : (b : Bool) → depends kind x t ≡ b → contains (cond b (i ∷ preds_from kind t (suc i) xs) (preds_from kind t (suc i) xs)) (i + 0) ≡ b
    go true e = ap (λ b. b || contains (preds_from kind t (suc i) xs) (i + 0)) (eq-eqb (i + 0) i (omega arith))
    go false e = later_place kind t (suc i) (i + 0) xs (omega arith)
stands_where kind t i (suc s) (x ∷ xs) l = go (depends kind x t) (stands_where kind t (suc i) s xs (omega arith))
  where
    go : (b : Bool) → contains (preds_from kind t (suc i) xs) (suc i + s) ≡ depends kind (get_or xs s no_txn) t → contains (cond b (i ∷ preds_from kind t (suc i) xs) (preds_from kind t (suc i) xs)) (i + suc s) ≡ depends kind (get_or xs s no_txn) t
    go true h = ap (λ b. b || contains (preds_from kind t (suc i) xs) (i + suc s)) (ne_eqb (i + suc s) i (λ e. absurd (omega arith))) ∙ (ap (contains (preds_from kind t (suc i) xs)) {x = i + suc s} {y = suc i + s} (omega arith) ∙ h)
    go false h = ap (contains (preds_from kind t (suc i) xs)) {x = i + suc s} {y = suc i + s} (omega arith) ∙ h

-- the test of a list is that of an edge
pub edge_stands : (plan : Plan) (lists : List (List ℕ)) (s t : ℕ) → lists ≡ graph_of plan.table.kind plan.txns → s < length plan.txns → t < length plan.txns → contains (get_or lists t []) s ≡ is_edge plan s t
edge_stands plan lists s t e ls lt =
    let kind = plan.table.kind in
    let list = ap (λ ys. get_or ys t []) e ∙ graph_step kind [] plan.txns t lt in
    ap (λ ys. contains ys s) list ∙ ⊎_elim
    (λ (l : s < t). let long = length-take-le t plan.txns (omega arith) in
    ap (contains (preds_from kind (txn_at plan.txns t) 0 (take t plan.txns))) {x = s} {y = 0 + s} (omega arith) ∙ stands_where kind (txn_at plan.txns t) 0 s (take t plan.txns) (omega arith) ∙ (ap (λ x. depends kind x (txn_at plan.txns t)) (get_or-take t plan.txns s no_txn l) ∙ sym (ap (λ b. b && depends kind (txn_at plan.txns s) (txn_at plan.txns t)) (lt-ltb s t l))))
    (λ (l : t ≤ s). let long = length-take-le t plan.txns (omega arith) in
    beyond kind (txn_at plan.txns t) 0 s (take t plan.txns) (omega arith) ∙ sym (ap (λ b. b && depends kind (txn_at plan.txns s) (txn_at plan.txns t)) (le-ltb s t l)))
    (cases_lt s t)
  where
    beyond : (kind : Kind) (t : Txn) (i s : ℕ) (xs : List Txn) → i + length xs ≤ s → contains (preds_from kind t i xs) s ≡ false
    beyond kind t i s [] l = refl
    beyond kind t i s (x ∷ xs) l = go (depends kind x t) (beyond kind t (suc i) s xs (omega arith))
      where
        go : (b : Bool) → contains (preds_from kind t (suc i) xs) s ≡ false → contains (cond b (i ∷ preds_from kind t (suc i) xs) (preds_from kind t (suc i) xs)) s ≡ false
        go true h = ap (λ b. b || contains (preds_from kind t (suc i) xs) s) (ne_eqb s i (λ e. absurd (omega arith))) ∙ h
        go false h = h

-- the positions that are ready at the start
pub ready_low : (m : ℕ) (p : Script) (t : ℕ) → 0 < times t (ready_below m p) → IsOwn p t × (planned p t ≡ 0)
ready_low zero p t pos = absurd (omega arith)
ready_low (suc m) p t pos = let b = p.own m && eqb (planned p m) 0 in let a = times-noted b t m (ready_below m p) in
    dite (ℕ_discrete (extra b t m) 0) (λ z. ready_low m p t (omega arith))
    (λ q. let e = extra_is b t m (omega arith) in subst (λ x. IsOwn p x × (planned p x ≡ 0)) e.1 ((and_parts (p.own m) (eqb (planned p m) 0) e.0).0, eqb-true (planned p m) 0 ((and_parts (p.own m) (eqb (planned p m) 0) e.0).1)))

pub ready_all : (m : ℕ) (p : Script) (t : ℕ) → t < m → IsOwn p t → planned p t ≡ 0 → 0 < times t (ready_below m p)
ready_all zero p t l own z = absurd (omega arith)
ready_all (suc m) p t l own z = let b = p.own m && eqb (planned p m) 0 in let a = times-noted b t m (ready_below m p) in
    dite (ℕ_discrete m t) (λ e. let c = extra_yes b t m (and_from (p.own m) (eqb (planned p m) 0) (subst (IsOwn p) (sym e) own) (eq-eqb (planned p m) 0 (ap (planned p) e ∙ z))) in let d = hit_same t m e in omega arith)
    (λ ne. let c = ready_all m p t (omega arith) own z in omega arith)

pub opens : (p : Script) (ws : List ℕ) → IsSound p → (38 * p.size < length ws) × (2 * p.records < length ws) × (0 < length ws) → clock ws ≡ 0 → ((t : ℕ) → IsOwn p t → (need ws t ≡ planned p t) × (turn ws t ≡ 0)) → ((t k : ℕ) → IsOwn p t → k < p.parts t → part ws t k ≡ 0)
    → ((r : ℕ) → r < p.records → IsAfter p (value ws r) (λ t. p.early t r) r) → Fixed p (part ws) → Holds p (opening ws [] (first_view p))
opens p ws sound size zero_clock fields empty values fixed = let v = first_view p in record {
  sized = size;
  fixed = fixed;
  sound = sound;
  counters = record {
    taken_once = λ t own. let a = (fields t own).1 in (omega arith, omega arith);
    tried_is_taken = λ t pos. absurd (omega arith);
    needs_balance = λ t own. let a = (fields t own).0 in let z = below_zero p.size (λ s. 0) (λ x _. refl) in omega arith;
    counted_once = λ s t. omega arith;
    ready_has_no_need = λ t pos. let a = ready_low p.size p t (omega arith) in (a.0, (fields t a.0).0 ∙ a.1);
    ready_is_duty = λ t own z. let a = (fields t own).0 in let b = ready_all p.size p t (sound.own_is_below t own) own (omega arith) in omega arith;
  };
  stamps = record {
    stamps_once = λ x. subst (λ c. 0 ≡ once_below c x) (sym zero_clock) refl;
    clock_counts = let z = below_zero p.size (λ s. 0) (λ x _. refl) in omega arith;
    stamps_in_order = λ s t b f x _ _. absurd (omega arith);
  };
  numbers = record {
    numbers_once = λ k. ⊎_elim (λ q. let a = q.1 in omega arith) (λ q. let a = q.1 in omega arith) (hits k 0);
    one_maker = refl_le;
  };
  cells = record {
    published_as_meant = λ t k own l. inl (refl, empty t k own l);
    value_of_writers = λ r l. after_same p (value ws r) (value ws r) (λ t. p.early t r) (λ t. p.early t r + (0 + 0)) r refl (λ t. omega arith) (values r l);
  };
  numbers_below = λ i u e k pos. alone i u e (λ z. k < z.passes) (⊎_elim (λ q. let a = q.0 in omega arith) (λ q. let a = q.1 in absurd (omega arith)) (hits k 0));
  each = λ i u e. alone i u e (Apart p) record {
    stamps = record {
      begun_is_taken = λ t. omega arith;
      finished_is_begun = λ t. omega arith;
      begin_below_finish = λ t b f x y. absurd (omega arith);
      counted_is_finished = λ s t x. absurd (omega arith);
    };
    cells = record {
      published_is_begun = λ t pos. absurd (omega arith);
      written_is_begun = λ t pos. absurd (omega arith);
      written_is_meant = λ t r pos. absurd (omega arith);
      written_is_published = λ t pos k l. absurd (omega arith);
      finished_is_published = λ t pos k l. absurd (omega arith);
      finished_is_written = λ t pos r g. absurd (omega arith);
    };
    live_or_spent = inl (omega arith);
    passes_capped = omega arith;
  };
}
  where
    refl_le : 1 + 0 ≤ 1
    refl_le = omega arith

    alone : (i : ℕ) (u : View) → get_elem? (first_view p ∷ []) i ≡ some u → (P : View → Type 0) → P (first_view p) → P u
    alone zero u e P q = subst P (some-injective (first_view p) u e) q
    alone (suc i) u e P q = absurd (some-ne-none u (sym e))

-- the flags of the duties at the start
pub flags_fit : (p : Script) (flags : List Bool) → length flags ≡ p.size → ((t : ℕ) → t < length flags → (get_or flags t false ≡ true → IsOwn p t × (planned p t ≡ 0)) × (IsOwn p t → planned p t ≡ 0 → get_or flags t false ≡ true)) → AreFlags (ready_below p.size p) flags
flags_fit p flags size each t l = ((λ is. let a = (each t l).0 is in ready_all p.size p t (omega arith) a.0 a.1), λ pos. let a = ready_low p.size p t pos in (each t l).1 a.0 a.1)

-- the words that a plan fills in meet the rule
pub opens_plan : (layout : Layout) (p : Plan) (first ws : List ℕ) → IsPlanFor layout p → AreHeld p → HasRoom p (length ws) → clock ws ≡ 0 → ((t : ℕ) → is_own p t ≡ true → (need ws t ≡ planned (script p) t) × (turn ws t ≡ 0)) → ((t k : ℕ) → is_own p t ≡ true → k < 1 + length (writes_at p t) → part ws t k ≡ 0)
    → IsFilled layout p first ws → Holds (script_of layout p) (opening ws [] (first_view (script_of layout p)))
opens_plan Values p first ws h held room zero_clock fields empty fill = opens (script p) ws (sound_for Values p h held) (room.0, room.1, omega arith) zero_clock fields empty
    (λ r l. starts p (record { lawful = h.lawful; full = h.full refl }) r (value ws r) (fill.values refl r l)) (λ t k is. absurd (false≢true is))
opens_plan Versions p first ws h held room zero_clock fields empty fill = opens (script_of Versions p) ws (sound_for Versions p h held) (room.0, omega arith, omega arith) zero_clock fields empty
    (λ r l. absurd (omega arith)) (λ t k is. let a = and_parts (is_some (known_at p t)) _ is in let b = and_parts (nat_lt 0 k) (nat_lt k (1 + length (writes_at p t))) a.1 in let low = ltb-true 0 k b.0 in let top = ltb-true k (1 + length (writes_at p t)) b.1 in
    ap (part ws t) {x = k} {y = k - 1 + 1} (omega arith) ∙ (fill.versions refl t (k - 1) (a.0, omega arith) ∙ (ap (λ o. word_of o (k - 1 + 1)) (sym (known_is p h.lawful t a.0)) ∙ ap (word_of (outcome_at p t)) {x = k - 1 + 1} {y = k} (omega arith))))

-- one more position that waits
pub row_more : (row after : List ℕ) (f : ℕ → ℕ) (t : ℕ) → after ≡ row ++ t ∷ [] → f t ≡ 1 → ((y : ℕ) → y < t → times y row ≡ f y) → ((y : ℕ) → t ≤ y → times y row ≡ 0)
    → ((y : ℕ) → y < t + 1 → times y after ≡ f y) × ((y : ℕ) → t + 1 ≤ y → times y after ≡ 0)
row_more row after f t e one low high = (
  (λ y l. ap (times y) e ∙ (let a = times-append y row (t ∷ []) in dite (ℕ_discrete y t) (λ s. let h = hit_same y t (sym s) in let z = high y (omega arith) in let o = ap f s in omega arith) (λ n. let h = hit_else y t (λ s. n (sym s)) in let z = low y (omega arith) in omega arith))),
  λ y l. ap (times y) e ∙ (let a = times-append y row (t ∷ []) in let h = hit_else y t (λ s. absurd (omega arith)) in let z = high y (omega arith) in omega arith),
)

pub row_same : (row : List ℕ) (f : ℕ → ℕ) (t : ℕ) → f t ≡ 0 → ((y : ℕ) → y < t → times y row ≡ f y) → ((y : ℕ) → t ≤ y → times y row ≡ 0)
    → ((y : ℕ) → y < t + 1 → times y row ≡ f y) × ((y : ℕ) → t + 1 ≤ y → times y row ≡ 0)
row_same row f t none low high = ((λ y l. dite (ℕ_discrete y t) (λ s. let z = high y (omega arith) in let o = ap f s in omega arith) (λ n. low y (omega arith))), λ y l. high y (omega arith))

pub one_is : (b : Bool) → b ≡ true → one_if b ≡ 1
one_is b e = ap one_if e

pub none_is : (b : Bool) → b ≡ false → one_if b ≡ 0
none_is b e = ap one_if e

-- beyond the block nothing waits
pub waits_below : (plan : Plan) (s y : ℕ) → IsLawfulPlan plan → length plan.txns ≤ y → one_if (waits plan s y) ≡ 0
waits_below plan s y h l = ap one_if (go (is_own plan y) refl)
  where
    go : (b : Bool) → is_own plan y ≡ b → waits plan s y ≡ false
    go true e = absurd (let b = own_below plan h y e in omega arith)
    go false e = ap (λ b. b && (not (is_some (known_at plan s)) && is_edge plan s y)) e

-- nor does what is not behind it
pub waits_behind : (plan : Plan) (s y : ℕ) → y ≤ s → one_if (waits plan s y) ≡ 0
waits_behind plan s y le = ap one_if (and_right (is_own plan y) _ (and_right (not (is_some (known_at plan s))) _ (and_left (nat_lt s y) _ (le-ltb s y le))))

-- the rows, one more
pub rows_more : (rows after : List (List ℕ)) (row : List ℕ) (s : ℕ) (P : ℕ → List ℕ → Type 0) → after ≡ rows ++ row ∷ [] → length rows ≡ s → P s row → ((x : ℕ) → x < s → P x (get_or rows x [])) → (x : ℕ) → x < s + 1 → P x (get_or after x [])
rows_more rows after row s P e long new old x l = subst (λ ys. P x (get_or ys x [])) (sym e) (dite (ℕ_discrete x s)
    (λ q. subst (P x) (sym (ap (λ k. get_or (rows ++ row ∷ []) k []) (q ∙ sym long) ∙ get_or-append_seam rows row [] [])) (subst (λ k. P k row) (sym q) new))
    (λ n. subst (P x) (sym (get_or_append_left rows (row ∷ []) [] x (omega arith))) (old x (omega arith))))

-- what waits, where t is own and s isn't known
pub waits_is : (plan : Plan) (s t : ℕ) → is_own plan t ≡ true → is_some (known_at plan s) ≡ false → waits plan s t ≡ is_edge plan s t
waits_is plan s t own un = ap (λ b. b && (not (is_some (known_at plan s)) && is_edge plan s t)) own ∙ ap (λ b. not b && is_edge plan s t) un

pub row_next : (plan : Plan) (s t : ℕ) (row after : List ℕ) (w : Bool) → w ≡ waits plan s t → after ≡ cond w (row ++ t ∷ []) row
    → (length row ≤ t) × ((y : ℕ) → y < t → times y row ≡ one_if (waits plan s y)) × ((y : ℕ) → t ≤ y → times y row ≡ 0)
    → (length after ≤ t + 1) × ((y : ℕ) → y < t + 1 → times y after ≡ one_if (waits plan s y)) × ((y : ℕ) → t + 1 ≤ y → times y after ≡ 0)
row_next plan s t row after true e is h = let m = row_more row after (λ y. one_if (waits plan s y)) t is (one_is (waits plan s t) (sym e)) h.1 h.2 in
    (let a = ap length is in let b = length-append row (t ∷ []) in let c = h.0 in omega arith, m.0, m.1)
row_next plan s t row after false e is h = let m = row_same row (λ y. one_if (waits plan s y)) t (none_is (waits plan s t) (sym e)) h.1 h.2 in
    (let a = ap length is in let c = h.0 in omega arith, (λ y l. ap (times y) is ∙ m.0 y l), λ y l. ap (times y) is ∙ m.1 y l)

-- the needs that the rows tell
pub needs_planned : (plan : Plan) (rows : List (List ℕ)) (t : ℕ) → AreRows plan rows → below (length rows) (λ s. times t (get_or rows s [])) ≡ planned (script plan) t
needs_planned plan rows t h = ap (λ n. below n (λ s. times t (get_or rows s []))) h.long ∙ same_below (length plan.txns) (λ s. times t (get_or rows s [])) (λ s. (script plan).edge s t) (λ s l. h.edges s t l)

pub rows_once : (plan : Plan) (rows : List (List ℕ)) → AreRows plan rows → (s y : ℕ) → times y (get_or rows s []) ≤ 1
rows_once plan rows h s y = go (dec_lt s (length plan.txns))
  where
    go : Dec (s < length plan.txns) → times y (get_or rows s []) ≤ 1
    go (yes l) = let a = h.edges s y l in let b = one_most (waits plan s y) in omega arith
    go (no n) = let a = ap (times y) (get_or_past rows s [] (let e = h.long in omega arith)) in omega arith

pub rows_low : (plan : Plan) (rows : List (List ℕ)) → IsLawfulPlan plan → AreRows plan rows → (s y : ℕ) → 0 < times y (get_or rows s []) → y < length rows
rows_low plan rows h r s y pos = go (dec_lt s (length plan.txns))
  where
    go : Dec (s < length plan.txns) → y < length rows
    go (yes l) = let a = r.edges s y l in let e = edge_is plan h s y (omega arith) in let b = own_below plan h y e.0 in let c = r.long in omega arith
    go (no n) = let a = ap (times y) (get_or_past rows s [] (let e = r.long in omega arith)) in absurd (omega arith)

-- the needs are those that the script plans
pub need_is : (plan : Plan) (w1 w2 : List ℕ) (rows : List (List ℕ)) (layout : Layout) → AreHeld plan → AreRows plan rows → ((t : ℕ) → need w1 t ≡ below (length rows) (λ s. times t (get_or rows s []))) → IsFilled layout plan w1 w2 → (t : ℕ) → need w2 t ≡ planned (script plan) t
need_is plan w1 w2 rows layout held rows_are needs fill t = fill.others (38 * t + 1) (λ r e. absurd (omega arith)) (λ x j is e. let w = held.writes x in let l = is.1 in omega arith) ∙ (needs t ∙ needs_planned plan rows t rows_are)

-- what is known isn't own
known_not_own : (plan : Plan) → IsLawfulPlan plan → (t : ℕ) → is_own plan t ≡ true → is_some (known_at plan t) ≡ true → ⊥
known_not_own plan h t own known = false≢true (ap is_some (sym (h.own_unknown t own)) ∙ known)

-- the words after the loops
pub filled : (layout : Layout) (plan : Plan) (n : ℕ) (w0 w1 w2 : List ℕ) (rows : List (List ℕ)) → IsPlanFor layout plan → AreHeld plan → AreRows plan rows → w0 ≡ replicate n 0 → HasRoom plan (length w2)
    → ((t : ℕ) → need w1 t ≡ below (length rows) (λ s. times t (get_or rows s []))) → ((i : ℕ) → ((t : ℕ) → i ≢ need_at t) → get_or w1 i 0 ≡ get_or w0 i 0)
    → IsFilled layout plan w1 w2 → Holds (script_of layout plan) (opening w2 [] (first_view (script_of layout plan)))
filled layout plan n w0 w1 w2 rows h held rows_are zeros room needs count_others fill = opens_plan layout plan w1 w2 h held room
    (fill.others 0 (λ r e. absurd (omega arith)) (λ x j is e. absurd (omega arith)) ∙ (count_others 0 (λ t e. absurd (omega arith)) ∙ zero 0))
    (λ t own. (need_is plan w1 w2 rows layout held rows_are needs fill t, fill.others (38 * t + 3) (λ r e. absurd (omega arith)) (λ x j is e. let w = held.writes x in let l = is.1 in omega arith) ∙ (count_others (38 * t + 3) (λ x e. absurd (omega arith)) ∙ zero (38 * t + 3))))
    (λ t k own l. let w = held.writes t in fill.others (38 * t + 5 + 2 * k) (λ r e. absurd (omega arith)) (λ x j is e. let v = held.writes x in let lj = is.1 in let same : x ≡ t = omega arith in known_not_own plan h.lawful t own (subst (λ z. is_some (known_at plan z) ≡ true) same is.0)) ∙ (count_others (38 * t + 5 + 2 * k) (λ x e. absurd (omega arith)) ∙ zero (38 * t + 5 + 2 * k)))
    fill
  where
    zero : (i : ℕ) → get_or w0 i 0 ≡ 0
    zero i = ap (λ ws. get_or ws i 0) zeros ∙ all_same n i 0
