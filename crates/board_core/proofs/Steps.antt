-- Each kind of step keeps the rule.
use Rattle.std.proofs.Common.{◌≡◌, ◌≢◌, ℕ, zero, suc, true, eqb, eq-eqb, eqb-true, ◌+◌, ◌-◌, ◌*◌, ◌%◌, ◌^◌, ◌<◌, ◌≤◌, inl, ⊎_elim, List, length, set, sym, refl, ap, ◌∙◌, subst, arith, length-set, get_or-set_other, get_or-set_same}
use Rattle.std.proofs.lemmas.Bool.Decides.{nat_tests, eqb_tells}
use mathlib.Core.Option.{none, some}
use mathlib.Core.Logic.{dite}
use native.Mathlib.Decide.{ℕ_discrete}
use lib.ListN.{get_elem?}
use lib.Seq.{set-get_or}
use Rattle.atomic_table.specs.Table.{State, Me, step, keeps, Allows}
use Rattle.board_core.specs.declared.view.View.{View}
use Rattle.board_core.specs.Counts.{hit_pair, times_pair, times_first, total, below, once_below, hit, times}
use Rattle.board_core.specs.Words.{clock, need_at, turn_at, part_at, value_place, need, turn}
use Rattle.board_core.specs.Script.{Script, IsOwn, Runs, Gives}
use Rattle.board_core.specs.Sums.{CounterSums, counters_of, StampSums, stamp_sums, stamps_of}
use Rattle.board_core.specs.Rule.{Counters, Stamps, Apart, Holds, IsLive}
use Rattle.board_core.specs.Steps.{loaded, swapped, begun, finished, counted_down, Tells, Swaps, Loads, Begins, Finishes}
use Rattle.board_core.proofs.Totals.{hit_same, hit_else, hits, pair_hits, extra, times-noted, extra_is, extra_yes, extra_no, extra_le, pair_le_first, pair_le_second, grown, kept, total_at, total_le, total_some, only, below-add, below_one, below_lt, below_most, once_is_below}
use Rattle.board_core.proofs.Cells.{all_counted}
use Rattle.board_core.proofs.Kept.{others_kept, counters_same, stamps_same, numbers_same, cells_same, keep_counters, keep_stamps, keep_numbers, keep_cells, keep_fixed, each_set}

-- a step that keeps the numbers of its pass and its count of passes
pub below_kept : (p : Script) (s : State ℕ View) (id : ℕ) (v w : View) → Holds p s → get_elem? s.views id ≡ some v → w.numbers ≡ v.numbers → w.passes ≡ v.passes
    → (i : ℕ) (u : View) → get_elem? (set s.views id w) i ≡ some u → (k : ℕ) → 0 < total (λ y. times k y.numbers) (set s.views id w) → k < u.passes
below_kept p s id v w h at same_numbers same_passes i u e k pos = let same = kept (λ y. times k y.numbers) s.views id v w at (ap (times k) same_numbers) in
    each_set (λ y. k < y.passes) s.views id w (let a = h.numbers_below id v at k (omega arith) in omega arith) (λ j y d. h.numbers_below j y d k (omega arith)) i u e

eqb_zero : (n : ℕ) → eqb n 0 ≡ true → n ≡ 0
eqb_zero n e = grind (arith, nat_tests)

-- LoadNeed: the counters alone
loads_counters : (p : Script) (need turn : ℕ → ℕ) (m : CounterSums) (t : ℕ) → IsOwn p t → Counters p need turn m → Counters p need turn (record m { ready = λ x. extra (eqb (need t) 0) x t + m.ready x })
loads_counters p need turn m t l h = record {
  taken_once = h.taken_once;
  tried_is_taken = h.tried_is_taken;
  needs_balance = h.needs_balance;
  counted_once = h.counted_once;
  ready_has_no_need = λ x pos. dite (ℕ_discrete (extra (eqb (need t) 0) x t) 0) (λ z. h.ready_has_no_need x (omega arith))
      (λ q. let e = extra_is (eqb (need t) 0) x t (omega arith) in subst (λ y. IsOwn p y × (need y ≡ 0)) e.1 (l, eqb_zero (need t) e.0));
  ready_is_duty = h.ready_is_duty;
}

loads_sums : (vs : List View) (id : ℕ) (v : View) (t n : ℕ) → get_elem? vs id ≡ some v
    → counters_of (set vs id (loaded t n v)) ≡ record (counters_of vs) { ready = λ x. extra (eqb n 0) x t + total (λ u. times x u.ready) vs }
loads_sums vs id v t n at = let w = loaded t n v in λ k. record {
  ready = λ x. grown (λ u. times x u.ready) vs id v w (extra (eqb n 0) x t) at (times-noted (eqb n 0) x t v.ready) k;
  tried = λ x. kept (λ u. times x u.tried) vs id v w at refl k;
  taken = λ x. kept (λ u. times x u.taken) vs id v w at refl k;
  duties = λ x. kept (λ u. times x u.duties) vs id v w at refl k;
  counted = λ x y. kept (λ u. times_pair x y u.counted) vs id v w at refl k;
}

pub loads : (p : Script) (slots id : ℕ) (me : Me ℕ View) (t : ℕ) → IsLive me.0 → IsOwn p t → Allows (Holds p) slots id me (need_at t) (λ n. n) (Loads t (step slots (need_at t) 0 0 none) me)
loads p slots id me t live l s h homes at fits = let v = me.0 in let n = need s.words t in let w = loaded t n v in let c = loads_sums s.views id v t n at in (
  w,
  keeps,
  tt,
  subst (λ (ws : List ℕ). Holds p record { words = ws; homes = s.homes; views = set s.views id w }) (sym (set-get_or s.words (need_at t) 0)) record {
    sized = h.sized;
    sound = h.sound;
    counters = subst (Counters p (need s.words) (turn s.words)) (sym c) (loads_counters p (need s.words) (turn s.words) (counters_of s.views) t l h.counters);
    stamps = keep_stamps (p.size) _ _ _ _ _ _ refl (ap (λ m. m.counted) c) (stamps_same s.views id v w at refl) h.stamps;
    numbers = keep_numbers _ _ (numbers_same s.views id v w at refl) h.numbers;
    cells = keep_cells p _ _ _ _ _ _ h.sound.parts_few (λ x k lk. refl) refl (cells_same s.views id v w at refl) h.cells;
    fixed = keep_fixed p _ _ h.sound (λ x k lk. refl) h.fixed;
    numbers_below = below_kept p s id v w h at refl refl;
    each = each_set (Apart p) s.views id w (let a = h.each id v at in record { stamps = a.stamps; cells = a.cells; live_or_spent = inl live; passes_capped = a.passes_capped }) h.each;
  },
  (refl, λ duty. let some_duty = total_at (λ u. times t u.duties) s.views id v at in (h.counters.ready_has_no_need t (omega arith)).1),
)

-- SwapTurn: the counters alone
swaps_sums : (vs : List View) (id : ℕ) (v : View) (t n : ℕ) → get_elem? vs id ≡ some v
    → counters_of (set vs id (swapped t n v)) ≡ record (counters_of vs) { tried = λ x. hit x t + total (λ u. times x u.tried) vs; taken = λ x. extra (eqb n 0) x t + total (λ u. times x u.taken) vs }
swaps_sums vs id v t n at = let w = swapped t n v in λ k. record {
  ready = λ x. kept (λ u. times x u.ready) vs id v w at refl k;
  tried = λ x. grown (λ u. times x u.tried) vs id v w (hit x t) at refl k;
  taken = λ x. grown (λ u. times x u.taken) vs id v w (extra (eqb n 0) x t) at (times-noted (eqb n 0) x t v.taken) k;
  duties = λ x. kept (λ u. times x u.duties) vs id v w at refl k;
  counted = λ x y. kept (λ u. times_pair x y u.counted) vs id v w at refl k;
}

turn_same : (ws : List ℕ) (t n : ℕ) → turn_at t < length ws → turn (set ws (turn_at t) n) t ≡ n
turn_same ws t n l = get_or-set_same ws (turn_at t) n 0 l

turn_else : (ws : List ℕ) (t n x : ℕ) → x ≢ t → turn (set ws (turn_at t) n) x ≡ turn ws x
turn_else ws t n x other = get_or-set_other ws (turn_at t) (turn_at x) n 0 (λ e. other (omega arith))

swaps_counters : (p : Script) (need turn turn' : ℕ → ℕ) (m : CounterSums) (t : ℕ) → 0 < m.ready t → turn' t ≡ 1 → ((x : ℕ) → x ≢ t → turn' x ≡ turn x)
    → Counters p need turn m → Counters p need turn' (record m { tried = λ x. hit x t + m.tried x; taken = λ x. extra (eqb (turn t) 0) x t + m.taken x })
swaps_counters p need turn turn' m t ready here others h = let n = turn t in let now = h.ready_has_no_need t (omega arith) in let was = h.taken_once t now.0 in record {
  taken_once = λ x l. ⊎_elim
      (λ q. let a : m.taken x ≡ m.taken t = ap m.taken (sym q.0) in let b : turn' x ≡ turn' t = ap turn' (sym q.0) in let o = q.1 in
      ⊎_elim (λ z. let c = extra_yes (eqb n 0) x t z.0 in let d = z.1 in let e = was.0 in (omega arith, omega arith)) (λ z. let c = extra_no (eqb n 0) x t z.0 in let d = z.1 in let e = was.0 in let f = was.1 in (omega arith, omega arith)) (eqb_tells n 0))
      (λ q. let a = others x (λ e. q.0 (sym e)) in let o = q.1 in let c = extra_le (eqb n 0) x t in let old = h.taken_once x l in let old0 = old.0 in let old1 = old.1 in (omega arith, omega arith))
      (hits x t);
  tried_is_taken = λ x pos. ⊎_elim (λ q. ap turn' (sym q.0) ∙ here) (λ q. let z = q.1 in others x (λ e. q.0 (sym e)) ∙ h.tried_is_taken x (omega arith)) (hits x t);
  needs_balance = h.needs_balance;
  counted_once = h.counted_once;
  ready_has_no_need = λ x pos. dite (ℕ_discrete (extra (eqb n 0) x t) 0) (λ z. h.ready_has_no_need x (omega arith))
      (λ q. let e = extra_is (eqb n 0) x t (omega arith) in subst (λ y. IsOwn p y × (need y ≡ 0)) e.1 now);
  ready_is_duty = h.ready_is_duty;
}

pub swaps : (p : Script) (slots id : ℕ) (me : Me ℕ View) (t : ℕ) → IsLive me.0 → 0 < times t me.0.ready → Allows (Holds p) slots id me (turn_at t) (λ _. 1) (Swaps t (step slots (turn_at t) 1 0 none) me)
swaps p slots id me t live ready s h homes at fits = let v = me.0 in let n = turn s.words t in let w = swapped t n v in let ws' = set s.words (turn_at t) 1 in let c = swaps_sums s.views id v t n at in
    let all_ready = total_at (λ u. times t u.ready) s.views id v at in let sums_ready : 0 < (counters_of s.views).ready t = omega arith in
    let own = (h.counters.ready_has_no_need t (omega arith)).0 in let l = h.sound.own_is_below t own in let size = h.sized in let size0 = size.0 in
    let old = h.each id v at in let once = h.counters.taken_once t own in (
      w,
      keeps,
      tt,
      record {
        sized = subst (λ k. (38 * p.size < k) × (2 * p.records < k) × (0 < k)) (sym (length-set s.words (turn_at t) 1)) size;
        sound = h.sound;
        counters = keep_counters p _ _ _ _ _ _ (others_kept s.words (turn_at t) 1 need_at (λ x e. absurd (omega arith))) refl c
            (swaps_counters p (need s.words) (turn s.words) (turn ws') (counters_of s.views) t sums_ready (turn_same s.words t 1 (omega arith)) (turn_else s.words t 1) h.counters);
        stamps = keep_stamps (p.size) _ _ _ _ _ _ (get_or-set_other s.words (turn_at t) 0 1 0 (λ e. absurd (omega arith))) (ap (λ m. m.counted) c) (stamps_same s.views id v w at refl) h.stamps;
        numbers = keep_numbers _ _ (numbers_same s.views id v w at refl) h.numbers;
        cells = keep_cells p _ _ _ _ _ _ h.sound.parts_few (λ x k lk. get_or-set_other s.words (turn_at t) (part_at x k) 1 0 (λ e. absurd (omega arith))) (others_kept s.words (turn_at t) 1 value_place (λ x e. absurd (omega arith))) (cells_same s.views id v w at refl) h.cells;
        fixed = keep_fixed p _ _ h.sound (λ x k lk. get_or-set_other s.words (turn_at t) (part_at x k) 1 0 (λ e. absurd (omega arith))) h.fixed;
        numbers_below = below_kept p s id v w h at refl refl;
        each = each_set (Apart p) s.views id w record {
          stamps = record {
            begun_is_taken = λ x. let b = old.stamps.begun_is_taken x in let d = times-noted (eqb n 0) x t v.taken in omega arith;
            finished_is_begun = old.stamps.finished_is_begun;
            begin_below_finish = old.stamps.begin_below_finish;
            counted_is_finished = old.stamps.counted_is_finished;
          };
          cells = old.cells;
          live_or_spent = inl live;
          passes_capped = old.passes_capped;
        } h.each;
      },
      (refl, λ zero. let b = old.stamps.begun_is_taken t in let d = old.stamps.finished_is_begun t in let all = total_at (λ u. times t u.taken) s.views id v at in let o = once.0 in (omega arith, omega arith)),
    )

-- facts of a state
pub taken_at_most_once : (p : Script) (s : State ℕ View) (id : ℕ) (v : View) (t : ℕ) → Holds p s → get_elem? s.views id ≡ some v → 0 < times t v.taken → IsOwn p t × (need s.words t ≡ 0) × (total (λ u. times t u.taken) s.views ≤ 1)
taken_at_most_once p s id v t h at has = let all = total_at (λ u. times t u.taken) s.views id v at in let some_taken : 0 < (counters_of s.views).taken t = omega arith in
    let own = h.counters.ready_has_no_need t (omega arith) in let once = h.counters.taken_once t own.0 in let a = once.0 in let b = once.1 in (own.0, own.1, omega arith)

-- what only the pass that took t can have, the pass has alone
pub alone : (p : Script) (s : State ℕ View) (id : ℕ) (v : View) (t : ℕ) (f : View → ℕ) → Holds p s → get_elem? s.views id ≡ some v → 0 < times t v.taken → ((u : View) → Apart p u → 0 < f u → 0 < times_first t u.begins) → total f s.views ≡ f v
alone p s id v t f h at has imp = only f (λ u. times t u.taken) s.views id v at has (taken_at_most_once p s id v t h at has).2
    (λ j u a pos. let q = h.each j u a in let b = imp u q pos in let c = q.stamps.begun_is_taken t in omega arith)

finish_is_stamp : (vs : List View) (x f : ℕ) → 0 < (stamp_sums vs).finishes x f → 0 < (stamp_sums vs).stamps f
finish_is_stamp vs x f pos = let le = total_le (λ u. times_pair x f u.finishes) (stamps_of f) vs (λ i v at. let a = pair_le_second x f v.finishes in omega arith) in omega arith

stamp_below : (p : Script) (s : State ℕ View) (x : ℕ) → Holds p s → 0 < (stamp_sums s.views).stamps x → x < clock s.words
stamp_below p s x h pos = once_is_below (clock s.words) x (subst (λ n. 0 < n) (h.stamps.stamps_once x) pos)

-- what has begun is begun once
begun_once : (p : Script) (s : State ℕ View) (x : ℕ) → Holds p s → total (λ u. times_first x u.begins) s.views ≤ 1
begun_once p s x h = let le = total_le (λ u. times_first x u.begins) (λ u. times x u.taken) s.views (λ i v at. (h.each i v at).stamps.begun_is_taken x) in
    dite (ℕ_discrete (total (λ u. times x u.taken) s.views) 0) (λ z. omega arith)
    (λ q. let own = h.counters.ready_has_no_need x (omega arith) in let o = h.counters.taken_once x own.0 in let a = o.0 in let b = o.1 in omega arith)

clock_small : (p : Script) (s : State ℕ View) → Holds p s → clock s.words ≤ 512
clock_small p s h = let n = p.size in
    let finished_le : (x : ℕ) → total (λ u. times_first x u.finishes) s.views ≤ total (λ u. times_first x u.begins) s.views = λ x. total_le (λ u. times_first x u.finishes) (λ u. times_first x u.begins) s.views (λ i v at. (h.each i v at).stamps.finished_is_begun x) in
    let a = below_most n 1 (stamp_sums s.views).begun (λ x l. begun_once p s x h) in
    let b = below_most n 1 (stamp_sums s.views).finished (λ x l. let r = begun_once p s x h in let z = finished_le x in omega arith) in
    let c = h.stamps.clock_counts in let few = h.sound.few in omega arith

clock_here : (ws : List ℕ) (n : ℕ) → 0 < length ws → clock (set ws 0 n) ≡ n
clock_here ws n l = get_or-set_same ws 0 n 0 l

below_grown : (n t : ℕ) (f : ℕ → ℕ) → t < n → below n (λ x. hit x t + f x) ≡ 1 + below n f
below_grown n t f l = let a = below-add n (λ x. hit x t) f in let b = below_one n t (λ x. hit x t) l (λ x ne. hit_else x t (λ e. ne (sym e))) in let c = hit_same t t refl in omega arith

-- a word that is far from its end goes up by one
goes_up : (n : ℕ) → n ≤ 512 → (n + 1) % 2 ^ 64 ≡ suc n
goes_up n l = omega arith

-- a position without need runs
no_need_runs : (p : Script) (s : State ℕ View) → Holds p s → (m t : ℕ) → t < m → IsOwn p t → need s.words t ≡ 0 → Runs p t
no_need_runs p s h zero t l own now = absurd (omega arith)
no_need_runs p s h (suc m) t l own now = h.sound.runs_where t own (λ x is. let f = (h.sound.edge_is_forward x t is).0 in let lt = h.sound.own_is_below t own in
    let c = all_counted p (need s.words) (turn s.words) (counters_of s.views) x t h.counters own (omega arith) now in
    let taken = total_some (λ u. times_pair x t u.counted) (λ u. times x u.taken) s.views (λ i u e pos. let a = (h.each i u e).stamps in let b = a.counted_is_finished x t pos in let c = a.finished_is_begun x in let d = a.begun_is_taken x in omega arith) (omega arith) in
    let old = h.counters.ready_has_no_need x (omega arith) in no_need_runs p s h m x (omega arith) old.0 old.1)

taken_runs : (p : Script) (s : State ℕ View) (id : ℕ) (v : View) (t : ℕ) → Holds p s → get_elem? s.views id ≡ some v → 0 < times t v.taken → Runs p t
taken_runs p s id v t h at has = let o = taken_at_most_once p s id v t h at has in no_need_runs p s h (suc t) t (omega arith) o.0 o.1

-- BeginStamp: the stamps alone
begins_sums : (vs : List View) (id : ℕ) (v : View) (t n : ℕ) → get_elem? vs id ≡ some v
    → stamp_sums (set vs id (begun t n v)) ≡ record (stamp_sums vs) { begins = λ x y. hit_pair x y (t, n) + total (λ u. times_pair x y u.begins) vs; begun = λ x. hit x t + total (λ u. times_first x u.begins) vs; stamps = λ x. hit x n + total (stamps_of x) vs }
begins_sums vs id v t n at = let w = begun t n v in λ k. record {
  begins = λ x y. grown (λ u. times_pair x y u.begins) vs id v w (hit_pair x y (t, n)) at refl k;
  finishes = λ x y. kept (λ u. times_pair x y u.finishes) vs id v w at refl k;
  begun = λ x. grown (λ u. times_first x u.begins) vs id v w (hit x t) at refl k;
  finished = λ x. kept (λ u. times_first x u.finishes) vs id v w at refl k;
  stamps = λ x. grown (stamps_of x) vs id v w (hit x n) at (omega arith) k;
}

begins_stamps : (size clock clock' t : ℕ) (counted : ℕ → ℕ → ℕ) (m : StampSums) → t < size → ((x f : ℕ) → 0 < m.finishes x f → f < clock) → clock' ≡ suc clock
    → Stamps size clock counted m → Stamps size clock' counted (record m { begins = λ x y. hit_pair x y (t, clock) + m.begins x y; begun = λ x. hit x t + m.begun x; stamps = λ x. hit x clock + m.stamps x })
begins_stamps size clock clock' t counted m l late ticks h = record {
  stamps_once = λ x. subst (λ c. hit x clock + m.stamps x ≡ once_below c x) (sym ticks) (let a = h.stamps_once x in omega arith);
  clock_counts = let a = h.clock_counts in let b = below_grown size t m.begun l in omega arith;
  stamps_in_order = λ s u b f counts begins finishes. ⊎_elim (λ q. subst (λ z. f < z) q.1 (late s f finishes)) (λ q. let z = q.1 in h.stamps_in_order s u b f counts (omega arith) finishes) (pair_hits u b (t, clock));
}

pub stamps_begin : (p : Script) (slots id : ℕ) (me : Me ℕ View) (t : ℕ) → IsLive me.0 → 0 < times t me.0.taken → times_first t me.0.begins ≡ 0
    → Allows (Holds p) slots id me 0 (λ n. (n + 1) % 2 ^ 64) (Begins p t (step slots 0 1 0 none) me)
stamps_begin p slots id me t live has fresh s h homes at fits = let v = me.0 in let n = clock s.words in let n' = (n + 1) % 2 ^ 64 in let w = begun t n v in
    let own = (taken_at_most_once p s id v t h at has).0 in let l = h.sound.own_is_below t own in let small = clock_small p s h in let a = h.each id v at in let b = a.stamps in let c = counters_same s.views id v w at refl in
    let late : (x f : ℕ) → 0 < (stamp_sums s.views).finishes x f → f < n = λ x f pos. stamp_below p s f h (finish_is_stamp s.views x f pos) in (
      w,
      keeps,
      tt,
      record {
        sized = subst (λ k. (38 * p.size < k) × (2 * p.records < k) × (0 < k)) (sym (length-set s.words 0 n')) h.sized;
        sound = h.sound;
        counters = keep_counters p _ _ _ _ _ _ (others_kept s.words 0 n' need_at (λ x e. absurd (omega arith))) (others_kept s.words 0 n' turn_at (λ x e. absurd (omega arith))) c h.counters;
        stamps = keep_stamps (p.size) _ _ _ _ _ _ refl (ap (λ m. m.counted) c) (begins_sums s.views id v t n at)
            (begins_stamps (p.size) n (clock (set s.words 0 n')) t (counters_of s.views).counted (stamp_sums s.views) l late (clock_here s.words n' h.sized.2 ∙ goes_up n small) h.stamps);
        numbers = keep_numbers _ _ (numbers_same s.views id v w at refl) h.numbers;
        cells = keep_cells p _ _ _ _ _ _ h.sound.parts_few (λ x k lk. get_or-set_other s.words 0 (part_at x k) n' 0 (λ e. absurd (omega arith))) (others_kept s.words 0 n' value_place (λ x e. absurd (omega arith))) (cells_same s.views id v w at refl) h.cells;
        fixed = keep_fixed p _ _ h.sound (λ x k lk. get_or-set_other s.words 0 (part_at x k) n' 0 (λ e. absurd (omega arith))) h.fixed;
        numbers_below = below_kept p s id v w h at refl refl;
        each = each_set (Apart p) s.views id w record {
          stamps = record {
            begun_is_taken = λ x. let d = b.begun_is_taken x in ⊎_elim (λ q. let c = q.1 in let d : times x v.taken ≡ times t v.taken = ap (λ y. times y v.taken) (sym q.0) in let e : times_first x v.begins ≡ times_first t v.begins = ap (λ y. times_first y v.begins) (sym q.0) in omega arith) (λ q. let c = q.1 in omega arith) (hits x t);
            finished_is_begun = λ x. let d = b.finished_is_begun x in omega arith;
            begin_below_finish = λ x y f begins finishes. ⊎_elim
                (λ q. let c = pair_le_first x f v.finishes in let d = b.finished_is_begun x in let e : times_first x v.begins ≡ times_first t v.begins = ap (λ y. times_first y v.begins) (sym q.0) in absurd (omega arith))
                (λ q. let z = q.1 in b.begin_below_finish x y f (omega arith) finishes) (pair_hits x y (t, n));
            counted_is_finished = b.counted_is_finished;
          };
          cells = record {
            published_is_begun = λ x pos. let d = a.cells.published_is_begun x pos in omega arith;
            written_is_begun = λ x pos. let d = a.cells.written_is_begun x pos in omega arith;
            written_is_meant = a.cells.written_is_meant;
            written_is_published = a.cells.written_is_published;
            finished_is_published = a.cells.finished_is_published;
            finished_is_written = a.cells.finished_is_written;
          };
          live_or_spent = inl live;
          passes_capped = a.passes_capped;
        } h.each;
      },
      (refl, small, taken_runs p s id v t h at has),
    )

-- FinishStamp: the stamps alone
finishes_sums : (vs : List View) (id : ℕ) (v : View) (t b n : ℕ) → get_elem? vs id ≡ some v
    → stamp_sums (set vs id (finished t b n v)) ≡ record (stamp_sums vs) { finishes = λ x y. hit_pair x y (t, n) + total (λ u. times_pair x y u.finishes) vs; finished = λ x. hit x t + total (λ u. times_first x u.finishes) vs; stamps = λ x. hit x n + total (stamps_of x) vs }
finishes_sums vs id v t b n at = let w = finished t b n v in λ k. record {
  begins = λ x y. kept (λ u. times_pair x y u.begins) vs id v w at refl k;
  finishes = λ x y. grown (λ u. times_pair x y u.finishes) vs id v w (hit_pair x y (t, n)) at refl k;
  begun = λ x. kept (λ u. times_first x u.begins) vs id v w at refl k;
  finished = λ x. grown (λ u. times_first x u.finishes) vs id v w (hit x t) at refl k;
  stamps = λ x. grown (stamps_of x) vs id v w (hit x n) at (omega arith) k;
}

finishes_stamps : (size clock clock' t : ℕ) (counted : ℕ → ℕ → ℕ) (m : StampSums) → t < size → ((u : ℕ) → counted t u ≡ 0) → clock' ≡ suc clock
    → Stamps size clock counted m → Stamps size clock' counted (record m { finishes = λ x y. hit_pair x y (t, clock) + m.finishes x y; finished = λ x. hit x t + m.finished x; stamps = λ x. hit x clock + m.stamps x })
finishes_stamps size clock clock' t counted m l early ticks h = record {
  stamps_once = λ x. subst (λ c. hit x clock + m.stamps x ≡ once_below c x) (sym ticks) (let a = h.stamps_once x in omega arith);
  clock_counts = let a = h.clock_counts in let b = below_grown size t m.finished l in omega arith;
  stamps_in_order = λ s u b f counts begins finishes. ⊎_elim (λ q. let none = early u in let same : counted s u ≡ counted t u = ap (λ x. counted x u) (sym q.0) in absurd (omega arith))
      (λ q. let z = q.1 in h.stamps_in_order s u b f counts begins (omega arith)) (pair_hits s f (t, clock));
}

pub stamps_finish : (p : Script) (slots id : ℕ) (me : Me ℕ View) (t begin : ℕ) → IsLive me.0 → 0 < times_first t me.0.begins → times_first t me.0.finishes ≡ 0
    → ((k : ℕ) → k < p.parts t → 0 < times_pair t k me.0.published) → ((r : ℕ) → Gives p t r → 0 < times_pair t r me.0.written)
    → Allows (Holds p) slots id me 0 (λ n. (n + 1) % 2 ^ 64) (Finishes t begin (step slots 0 1 0 none) me)
stamps_finish p slots id me t begin live has fresh all_published all_written s h homes at fits = let v = me.0 in let n = clock s.words in let n' = (n + 1) % 2 ^ 64 in let w = finished t begin n v in
    let a = h.each id v at in let b = a.stamps in let begun_taken = b.begun_is_taken t in let taken : 0 < times t v.taken = omega arith in let c = counters_same s.views id v w at refl in
    let own = (taken_at_most_once p s id v t h at taken).0 in let l = h.sound.own_is_below t own in let small = clock_small p s h in
    let uncounted : (u : ℕ) → times_pair t u v.counted ≡ 0 = λ u. dite (ℕ_discrete (times_pair t u v.counted) 0) (λ z. z) (λ q. let d = b.counted_is_finished t u (omega arith) in absurd (omega arith)) in
    let none : (u : ℕ) → total (λ y. times_pair t u y.counted) s.views ≡ 0 = λ u. alone p s id v t (λ y. times_pair t u y.counted) h at taken (λ y q pos. let c = q.stamps.counted_is_finished t u pos in let d = q.stamps.finished_is_begun t in omega arith) ∙ uncounted u in (
      w,
      keeps,
      tt,
      record {
        sized = subst (λ k. (38 * p.size < k) × (2 * p.records < k) × (0 < k)) (sym (length-set s.words 0 n')) h.sized;
        sound = h.sound;
        counters = keep_counters p _ _ _ _ _ _ (others_kept s.words 0 n' need_at (λ x e. absurd (omega arith))) (others_kept s.words 0 n' turn_at (λ x e. absurd (omega arith))) c h.counters;
        stamps = keep_stamps (p.size) _ _ _ _ _ _ refl (ap (λ m. m.counted) c) (finishes_sums s.views id v t begin n at)
            (finishes_stamps (p.size) n (clock (set s.words 0 n')) t (counters_of s.views).counted (stamp_sums s.views) l none (clock_here s.words n' h.sized.2 ∙ goes_up n small) h.stamps);
        numbers = keep_numbers _ _ (numbers_same s.views id v w at refl) h.numbers;
        cells = keep_cells p _ _ _ _ _ _ h.sound.parts_few (λ x k lk. get_or-set_other s.words 0 (part_at x k) n' 0 (λ e. absurd (omega arith))) (others_kept s.words 0 n' value_place (λ x e. absurd (omega arith))) (cells_same s.views id v w at refl) h.cells;
        fixed = keep_fixed p _ _ h.sound (λ x k lk. get_or-set_other s.words 0 (part_at x k) n' 0 (λ e. absurd (omega arith))) h.fixed;
        numbers_below = below_kept p s id v w h at refl refl;
        each = each_set (Apart p) s.views id w record {
          stamps = record {
            begun_is_taken = b.begun_is_taken;
            finished_is_begun = λ x. let d = b.finished_is_begun x in ⊎_elim (λ q. let c = q.1 in let d : times_first x v.begins ≡ times_first t v.begins = ap (λ y. times_first y v.begins) (sym q.0) in let e : times_first x v.finishes ≡ times_first t v.finishes = ap (λ y. times_first y v.finishes) (sym q.0) in omega arith) (λ q. let c = q.1 in omega arith) (hits x t);
            begin_below_finish = λ x y f begins finishes. ⊎_elim
                (λ q. let le = pair_le_second x y v.begins in let all = total_at (stamps_of y) s.views id v at in let c : y < n = stamp_below p s y h (omega arith) in subst (λ z. y < z) q.1 c)
                (λ q. let z = q.1 in b.begin_below_finish x y f begins (omega arith)) (pair_hits x f (t, n));
            counted_is_finished = λ x y pos. let d = b.counted_is_finished x y pos in omega arith;
          };
          cells = record {
            published_is_begun = a.cells.published_is_begun;
            written_is_begun = a.cells.written_is_begun;
            written_is_meant = a.cells.written_is_meant;
            written_is_published = a.cells.written_is_published;
            finished_is_published = λ x pos k lk. ⊎_elim (λ q. subst (λ z. 0 < times_pair z k v.published) q.0 (all_published k (subst (λ z. k < p.parts z) (sym q.0) lk))) (λ q. let z = q.1 in a.cells.finished_is_published x (omega arith) k lk) (hits x t);
            finished_is_written = λ x pos r gives. ⊎_elim (λ q. subst (λ z. 0 < times_pair z r v.written) q.0 (all_written r (subst (λ z. Gives p z r) (sym q.0) gives))) (λ q. let z = q.1 in a.cells.finished_is_written x (omega arith) r gives) (hits x t);
          };
          live_or_spent = inl live;
          passes_capped = a.passes_capped;
        } h.each;
      },
      (refl, small, uncounted),
    )

-- CountDown of the edge from r to t: the counters, and the order of the stamps
need_here : (ws : List ℕ) (t n : ℕ) → need_at t < length ws → need (set ws (need_at t) n) t ≡ n
need_here ws t n l = get_or-set_same ws (need_at t) n 0 l

need_else : (ws : List ℕ) (t n x : ℕ) → x ≢ t → need (set ws (need_at t) n) x ≡ need ws x
need_else ws t n x other = get_or-set_other ws (need_at t) (need_at x) n 0 (λ e. other (omega arith))

counts_sums : (vs : List View) (id : ℕ) (v : View) (r t n : ℕ) → get_elem? vs id ≡ some v
    → counters_of (set vs id (counted_down r t n v)) ≡ record (counters_of vs) { duties = λ x. extra (eqb n 1) x t + total (λ u. times x u.duties) vs; counted = λ x y. hit_pair x y (r, t) + total (λ u. times_pair x y u.counted) vs }
counts_sums vs id v r t n at = let w = counted_down r t n v in λ k. record {
  ready = λ x. kept (λ u. times x u.ready) vs id v w at refl k;
  tried = λ x. kept (λ u. times x u.tried) vs id v w at refl k;
  taken = λ x. kept (λ u. times x u.taken) vs id v w at refl k;
  duties = λ x. grown (λ u. times x u.duties) vs id v w (extra (eqb n 1) x t) at (times-noted (eqb n 1) x t v.duties) k;
  counted = λ x y. grown (λ u. times_pair x y u.counted) vs id v w (hit_pair x y (r, t)) at refl k;
}

-- an edge that isn't counted is a need
edge_needs : (p : Script) (need turn : ℕ → ℕ) (m : CounterSums) (r t : ℕ) → r < p.size → IsOwn p t → 0 < p.edge r t → m.counted r t ≡ 0 → Counters p need turn m → 0 < need t
edge_needs p need turn m r t lr lt is new h = let a = below_lt (p.size) r (λ s. m.counted s t) (λ s. p.edge s t) lr (λ s l. h.counted_once s t) (omega arith) in let b = h.needs_balance t lt in omega arith

counts_counters : (p : Script) (need need' turn : ℕ → ℕ) (m : CounterSums) (r t : ℕ) → r < p.size → IsOwn p t → 0 < p.edge r t → m.counted r t ≡ 0
    → suc (need' t) ≡ need t → ((x : ℕ) → x ≢ t → need' x ≡ need x)
    → Counters p need turn m → Counters p need' turn (record m { duties = λ x. extra (eqb (need t) 1) x t + m.duties x; counted = λ x y. hit_pair x y (r, t) + m.counted x y })
counts_counters p need need' turn m r t lr lt is new here others h = let n = need t in let size = p.size in record {
  taken_once = h.taken_once;
  tried_is_taken = h.tried_is_taken;
  needs_balance = λ x l. let b = h.needs_balance x l in let a = below-add size (λ s. hit_pair s x (r, t)) (λ s. m.counted s x) in let c = below_one size r (λ s. hit_pair s x (r, t)) lr (λ s ne. ⊎_elim (λ q. absurd (ne (sym q.0))) (λ q. q.1) (pair_hits s x (r, t))) in
      ⊎_elim (λ q. let d = q.2 in let e : need' x ≡ need' t = ap need' (sym q.1) in let f : need x ≡ need t = ap need (sym q.1) in omega arith)
      (λ q. let d = q.1 in let e = others x (λ k. q.0 refl (sym k)) in omega arith) (pair_hits r x (r, t));
  counted_once = λ x y. ⊎_elim (λ q. let a = q.2 in let b : p.edge x y ≡ p.edge r t = (λ k. p.edge (sym q.0 k) (sym q.1 k)) in let c : m.counted x y ≡ m.counted r t = (λ k. m.counted (sym q.0 k) (sym q.1 k)) in omega arith) (λ q. let a = q.1 in let b = h.counted_once x y in omega arith) (pair_hits x y (r, t));
  ready_has_no_need = λ x pos. dite (ℕ_discrete x t)
      (λ e. dite (ℕ_discrete (extra (eqb n 1) x t) 0) (λ z. let old = (h.ready_has_no_need x (omega arith)).1 in let same : need x ≡ need t = ap need e in let b = edge_needs p need turn m r t lr lt is new h in absurd (omega arith))
      (λ q. let one = eqb-true n 1 (extra_is (eqb n 1) x t (omega arith)).0 in let same : need' x ≡ need' t = ap need' e in (subst (IsOwn p) (sym e) lt, omega arith)))
      (λ ne. let le = extra_le (eqb n 1) x t in let zero_hit = hit_else x t (λ e. ne (sym e)) in let old = h.ready_has_no_need x (omega arith) in (old.0, others x ne ∙ old.1));
  ready_is_duty = λ x l z. dite (ℕ_discrete x t)
      (λ e. let same : need' x ≡ need' t = ap need' e in let one : n ≡ 1 = omega arith in let a = extra_yes (eqb n 1) x t (eq-eqb n 1 one) in let b = hit_same x t (sym e) in omega arith)
      (λ ne. let a = h.ready_is_duty x l (sym (others x ne) ∙ z) in omega arith);
}

-- a position with a begin stamp has no edge left to count
counts_stamps : (size clock r t : ℕ) (counted : ℕ → ℕ → ℕ) (m : StampSums) → ((b : ℕ) → 0 < m.begins t b → ⊥) → Stamps size clock counted m → Stamps size clock (λ x y. hit_pair x y (r, t) + counted x y) m
counts_stamps size clock r t counted m never h = record {
  stamps_once = h.stamps_once;
  clock_counts = h.clock_counts;
  stamps_in_order = λ s u b f counts begins finishes. ⊎_elim (λ q. absurd (never b (subst (λ x. 0 < m.begins x b) (sym q.1) begins))) (λ q. let z = q.1 in h.stamps_in_order s u b f (omega arith) begins finishes) (pair_hits s u (r, t));
}

-- a word above 0 goes down by one
goes_down : (n : ℕ) → n < 18446744073709551616 → 0 < n → suc ((n + (2 ^ 64 - 1)) % 2 ^ 64) ≡ n
goes_down n fits pos = omega arith

pub counts_down : (p : Script) (slots id : ℕ) (me : Me ℕ View) (r t : ℕ) → IsLive me.0 → 0 < times_first r me.0.finishes → 0 < p.edge r t → times_pair r t me.0.counted ≡ 0
    → Allows (Holds p) slots id me (need_at t) (λ n. (n + (2 ^ 64 - 1)) % 2 ^ 64) (Tells (counted_down r t) (step slots (need_at t) 1 0 none) me)
counts_down p slots id me r t live done is fresh s h homes at fits = let v = me.0 in let n = need s.words t in let n' = (n + (2 ^ 64 - 1)) % 2 ^ 64 in let w = counted_down r t n v in let ws' = set s.words (need_at t) n' in
    let a = h.each id v at in let finished_begun = a.stamps.finished_is_begun r in let begun_taken = a.stamps.begun_is_taken r in let taken : 0 < times r v.taken = omega arith in
    let lr = h.sound.own_is_below r (taken_at_most_once p s id v r h at taken).0 in let own = (h.sound.edge_is_forward r t is).1 in let lt = h.sound.own_is_below t own in let size = h.sized in let size0 = size.0 in
    let one = alone p s id v r (λ y. times_pair r t y.counted) h at taken (λ y q pos. let c = q.stamps.counted_is_finished r t pos in let d = q.stamps.finished_is_begun r in omega arith) ∙ fresh in
    let pos = edge_needs p (need s.words) (turn s.words) (counters_of s.views) r t lr own is one h.counters in let down = goes_down n fits pos in let here : need ws' t ≡ n' = need_here s.words t n' (omega arith) in
    let c = counts_sums s.views id v r t n at in
    let none : (b : ℕ) → 0 < (stamp_sums s.views).begins t b → ⊥ = (λ b q. let le = total_le (λ u. times_pair t b u.begins) (λ u. times t u.taken) s.views (λ i u e. let c = pair_le_first t b u.begins in let d = (h.each i u e).stamps.begun_is_taken t in omega arith) in
    let now = (h.counters.ready_has_no_need t (omega arith)).1 in absurd (omega arith)) in (
      w,
      keeps,
      tt,
      record {
        sized = subst (λ k. (38 * p.size < k) × (2 * p.records < k) × (0 < k)) (sym (length-set s.words (need_at t) n')) size;
        sound = h.sound;
        counters = keep_counters p _ _ _ _ _ _ refl (others_kept s.words (need_at t) n' turn_at (λ x e. absurd (omega arith))) c
            (counts_counters p (need s.words) (need ws') (turn s.words) (counters_of s.views) r t lr own is one (ap suc here ∙ down) (need_else s.words t n') h.counters);
        stamps = keep_stamps (p.size) _ _ _ _ _ _ (get_or-set_other s.words (need_at t) 0 n' 0 (λ e. absurd (omega arith))) (ap (λ m. m.counted) c) (stamps_same s.views id v w at refl)
            (counts_stamps (p.size) (clock s.words) r t (counters_of s.views).counted (stamp_sums s.views) none h.stamps);
        numbers = keep_numbers _ _ (numbers_same s.views id v w at refl) h.numbers;
        cells = keep_cells p _ _ _ _ _ _ h.sound.parts_few (λ x k lk. get_or-set_other s.words (need_at t) (part_at x k) n' 0 (λ e. absurd (omega arith))) (others_kept s.words (need_at t) n' value_place (λ x e. absurd (omega arith))) (cells_same s.views id v w at refl) h.cells;
        fixed = keep_fixed p _ _ h.sound (λ x k lk. get_or-set_other s.words (need_at t) (part_at x k) n' 0 (λ e. absurd (omega arith))) h.fixed;
        numbers_below = below_kept p s id v w h at refl refl;
        each = each_set (Apart p) s.views id w record {
          stamps = record {
            begun_is_taken = a.stamps.begun_is_taken;
            finished_is_begun = a.stamps.finished_is_begun;
            begin_below_finish = a.stamps.begin_below_finish;
            counted_is_finished = λ x y q. ⊎_elim (λ e. subst (λ z. 0 < times_first z v.finishes) e.0 done) (λ e. let z = e.1 in a.stamps.counted_is_finished x y (omega arith)) (pair_hits x y (r, t));
          };
          cells = a.cells;
          live_or_spent = inl live;
          passes_capped = a.passes_capped;
        } h.each;
      },
      refl,
    )
