-- LoadValue, LoadPart, Publish and WriteValue keep the rule.
use Rattle.std.proofs.Common.{◌≡◌, ◌≢◌, ℕ, suc, Bool, true, false, ◌+◌, ◌*◌, ◌<◌, ◌≤◌, ◌⊎◌, inl, inr, ⊎_elim, List, [], ◌∷◌, set, get_or, sym, refl, ap, ◌∙◌, subst, arith, length-set, get_or-set_other, get_or-set_same, Some}
use mathlib.Core.Option.{none, some}
use mathlib.Core.Logic.{dite}
use native.Mathlib.Decide.{ℕ_discrete}
use lib.ListN.{get_elem?}
use lib.Seq.{set-get_or}
use Rattle.atomic_table.specs.Table.{State, Me, step, keeps, Allows}
use Rattle.board_core.specs.declared.view.View.{View}
use Rattle.board_core.specs.Counts.{hit_pair, times_pair, times_first, total, hit, times}
use Rattle.board_core.specs.Words.{need_at, turn_at, part_at, value_place, need, turn, part, value}
use Rattle.board_core.specs.Script.{Script, IsOwn, Uses, Gives, IsAfter, serial_value}
use Rattle.board_core.specs.Sums.{counters_of, CellSums, cell_sums}
use Rattle.board_core.specs.Rule.{Cells, Apart, Holds, IsLive}
use Rattle.board_core.specs.Steps.{publishing, writing, LoadsValue, Sets, Puts}
use Rattle.board_core.proofs.Totals.{hit_same, hit_else, hits, pair_hits, pair_le_first, grown, kept, total_at, total_some}
use Rattle.board_core.proofs.Kept.{others_kept, counters_same, stamps_same, numbers_same, cells_same, keep_counters, keep_stamps, keep_numbers, keep_cells, keep_fixed, each_set}
use Rattle.board_core.proofs.Cells.{all_counted, inputs_are_serial, writes_value, after_same}
use Rattle.board_core.proofs.Steps.{below_kept, taken_at_most_once, alone}

-- the pass holds t: it has begun it, and not finished it
record Held (p : Script) (s : State ℕ View) (v : View) (t : ℕ) : Type 0 where
  own : IsOwn p t
  no_need : need s.words t ≡ 0
  has : 0 < times t v.taken
  unfinished : total (λ u. times_first t u.finishes) s.views ≡ 0

held : (p : Script) (s : State ℕ View) (id : ℕ) (v : View) (t : ℕ) → Holds p s → get_elem? s.views id ≡ some v → 0 < times_first t v.begins → times_first t v.finishes ≡ 0 → Held p s v t
held p s id v t h at begun unfinished = let a = (h.each id v at).stamps.begun_is_taken t in let has : 0 < times t v.taken = omega arith in let once = taken_at_most_once p s id v t h at has in record {
  own = once.0;
  no_need = once.1;
  has = has;
  unfinished = alone p s id v t (λ u. times_first t u.finishes) h at has (λ u q pos. let b = q.stamps.finished_is_begun t in omega arith) ∙ unfinished;
}

-- each earlier position that gives what a held one uses has put it
earlier_put : (p : Script) (s : State ℕ View) (id : ℕ) (v : View) (t r : ℕ) → Holds p s → get_elem? s.views id ≡ some v → Held p s v t → Uses p t r → (x : ℕ) → x < t → Gives p x r → 0 < p.early x r + (cell_sums s.views).written x r
earlier_put p s id v t r h at k uses x l gives = let lt = h.sound.own_is_below t k.own in ⊎_elim (λ known. omega arith)
    (λ is. let c = all_counted p (need s.words) (turn s.words) (counters_of s.views) x t h.counters k.own (omega arith) k.no_need in
    let done = total_some (λ u. times_pair x t u.counted) (λ u. times_first x u.finishes) s.views (λ i u e pos. (h.each i u e).stamps.counted_is_finished x t pos) (omega arith) in
    let put = total_some (λ u. times_first x u.finishes) (λ u. times_pair x r u.written) s.views (λ i u e pos. (h.each i u e).cells.finished_is_written x pos r gives) done in omega arith)
    (h.sound.before x t r k.own l gives uses)

-- no later position has put it
later_put : (p : Script) (s : State ℕ View) (id : ℕ) (v : View) (t r : ℕ) → Holds p s → get_elem? s.views id ≡ some v → Held p s v t → Uses p t r → (x : ℕ) → t < x → p.early x r + (cell_sums s.views).written x r ≡ 0
later_put p s id v t r h at k uses x l = let unknown = h.sound.later_unknown x t r k.own (omega arith) uses in dite (ℕ_discrete ((cell_sums s.views).written x r) 0) (λ z. omega arith)
    (λ q. absurd (let taken = total_some (λ u. times_pair x r u.written) (λ u. times x u.taken) s.views (λ i u e pos. let a = h.each i u e in let le = pair_le_first x r u.written in let b = a.cells.written_is_begun x (omega arith) in let c = a.stamps.begun_is_taken x in omega arith) (omega arith) in
    let now = h.counters.ready_has_no_need x (omega arith) in
    let gives = given s.views (λ i u e. (h.each i u e).cells.written_is_meant x r) (omega arith) in
    let is = h.sound.later x t r k.own now.0 l uses gives in
    let c = all_counted p (need s.words) (turn s.words) (counters_of s.views) t x h.counters now.0 (h.sound.own_is_below t k.own) now.1 in
    let done = total_some (λ u. times_pair t x u.counted) (λ u. times_first t u.finishes) s.views (λ i u e pos. (h.each i u e).stamps.counted_is_finished t x pos) (omega arith) in let z = k.unfinished in omega arith))
  where
    given : (vs : List View) → ((i : ℕ) (u : View) → get_elem? vs i ≡ some u → 0 < times_pair x r u.written → Gives p x r) → 0 < total (λ u. times_pair x r u.written) vs → Gives p x r
    given [] each pos = absurd (omega arith)
    given (u ∷ us) each pos = dite (ℕ_discrete (times_pair x r u.written) 0) (λ z. given us (λ i y e. each (suc i) y e) (omega arith)) (λ q. each 0 u refl (omega arith))

-- what a held position that has written nothing finds in the words that it uses: its serial value
pub finds_serial : (p : Script) (s : State ℕ View) (id : ℕ) (v : View) (t r : ℕ) → Holds p s → get_elem? s.views id ≡ some v → 0 < times_first t v.begins → times_first t v.finishes ≡ 0 → times_first t v.written ≡ 0 → Uses p t r → value s.words r ≡ serial_value p t r
finds_serial p s id v t r h at begun unfinished unwritten uses = let k = held p s id v t h at begun unfinished in
    let mine : total (λ u. times_pair t r u.written) s.views ≡ 0 = (let one = alone p s id v t (λ u. times_pair t r u.written) h at k.has (λ u q pos. let le = pair_le_first t r u.written in q.cells.written_is_begun t (omega arith)) in let le = pair_le_first t r v.written in omega arith) in
    inputs_are_serial p (value s.words r) (λ x. p.early x r + (cell_sums s.views).written x r) r t (h.cells.value_of_writers r (h.sound.used_is_record t r uses)) (earlier_put p s id v t r h at k uses)
    (λ x l. dite (ℕ_discrete x t) (λ e. let same : (cell_sums s.views).written x r ≡ (cell_sums s.views).written t r = ap (λ y. (cell_sums s.views).written y r) e in let u = h.sound.later_unknown x t r k.own l uses in omega arith) (λ ne. later_put p s id v t r h at k uses x (omega arith)))

-- a load changes nothing
loads_nothing : (p : Script) (s : State ℕ View) (id i : ℕ) (v : View) → Holds p s → get_elem? s.views id ≡ some v → Holds p record { words = set s.words i (get_or s.words i 0); homes = s.homes; views = set s.views id v }
loads_nothing p s id i v h at = subst (λ (ws : List ℕ). Holds p record { words = ws; homes = s.homes; views = set s.views id v }) (sym (set-get_or s.words i 0)) record {
  sized = h.sized;
  sound = h.sound;
  counters = keep_counters p _ _ _ _ _ _ refl refl (counters_same s.views id v v at refl) h.counters;
  stamps = keep_stamps (p.size) _ _ _ _ _ _ refl (ap (λ m. m.counted) (counters_same s.views id v v at refl)) (stamps_same s.views id v v at refl) h.stamps;
  numbers = keep_numbers _ _ (numbers_same s.views id v v at refl) h.numbers;
  cells = keep_cells p _ _ _ _ _ _ h.sound.parts_few (λ x k lk. refl) refl (cells_same s.views id v v at refl) h.cells;
  fixed = h.fixed;
  numbers_below = below_kept p s id v v h at refl refl;
  each = each_set (Apart p) s.views id v (h.each id v at) h.each;
}

-- LoadValue
pub loads_value : (p : Script) (slots id : ℕ) (me : Me ℕ View) (t r : ℕ) → IsLive me.0 → 0 < times_first t me.0.begins → times_first t me.0.finishes ≡ 0 → times_first t me.0.written ≡ 0 → Uses p t r
    → Allows (Holds p) slots id me (value_place r) (λ n. n) (LoadsValue (serial_value p t r) (step slots (value_place r) 0 0 none) me)
loads_value p slots id me t r live begun unfinished unwritten uses s h homes at fits =
    (me.0, keeps, tt, loads_nothing p s id (value_place r) me.0 h at, (refl, finds_serial p s id me.0 t r h at begun unfinished unwritten uses))

-- what is finished has published each of its words
pub finished_word : (p : Script) (s : State ℕ View) (t k : ℕ) → Holds p s → 0 < total (λ u. times_first t u.finishes) s.views → k < p.parts t → part s.words t k ≡ p.meant t k
finished_word p s t k h done lk =
    let taken = total_some (λ u. times_first t u.finishes) (λ u. times t u.taken) s.views (λ i u e pos. let b = (h.each i u e).stamps in let d = b.finished_is_begun t in let f = b.begun_is_taken t in omega arith) done in
    let own = (h.counters.ready_has_no_need t (omega arith)).0 in
    let put = total_some (λ u. times_first t u.finishes) (λ u. times_pair t k u.published) s.views (λ i u e pos. (h.each i u e).cells.finished_is_published t pos k lk) done in
    ⊎_elim (λ z. let b = z.0 in absurd (omega arith)) (λ z. z.1) (h.cells.published_as_meant t k own lk)

-- what a taken position waited for is finished
pub waited_finished : (p : Script) (s : State ℕ View) (x t : ℕ) → Holds p s → 0 < total (λ u. times t u.taken) s.views → 0 < p.edge x t → 0 < total (λ u. times_first x u.finishes) s.views
waited_finished p s x t h taken edge =
    let now = h.counters.ready_has_no_need t (omega arith) in let lx = (h.sound.edge_is_forward x t edge).0 in let lt = h.sound.own_is_below t now.0 in
    let c = all_counted p (need s.words) (turn s.words) (counters_of s.views) x t h.counters now.0 (omega arith) now.1 in
    total_some (λ u. times_pair x t u.counted) (λ u. times_first x u.finishes) s.views (λ i u e pos. (h.each i u e).stamps.counted_is_finished x t pos) (omega arith)

-- what began finds each word that is set at the start, and each word of a position that it waited for
finds_part : (p : Script) (s : State ℕ View) (id : ℕ) (v : View) (x t k : ℕ) → Holds p s → get_elem? s.views id ≡ some v → 0 < times_first t v.begins → k < p.parts x → (p.fixed x k ≡ true) ⊎ (0 < p.edge x t) → part s.words x k ≡ p.meant x k
finds_part p s id v x t k h at begun lk why = ⊎_elim (λ fixed. h.fixed x k fixed)
    (λ edge. let a = (h.each id v at).stamps.begun_is_taken t in let all = total_at (λ u. times t u.taken) s.views id v at in finished_word p s x k h (waited_finished p s x t h (omega arith) edge) lk)
    why

-- LoadPart
pub loads_part : (p : Script) (slots id : ℕ) (me : Me ℕ View) (x t k : ℕ) → IsLive me.0 → 0 < times_first t me.0.begins → k < p.parts x → (p.fixed x k ≡ true) ⊎ (0 < p.edge x t)
    → Allows (Holds p) slots id me (part_at x k) (λ n. n) (LoadsValue (p.meant x k) (step slots (part_at x k) 0 0 none) me)
loads_part p slots id me x t k live begun lk why s h homes at fits = (me.0, keeps, tt, loads_nothing p s id (part_at x k) me.0 h at, (refl, finds_part p s id me.0 x t k h at begun lk why))

-- Publish: the cells alone
publishes_sums : (vs : List View) (id : ℕ) (v : View) (t k : ℕ) → get_elem? vs id ≡ some v
    → cell_sums (set vs id (publishing t k v)) ≡ record (cell_sums vs) { published = λ x y. hit_pair x y (t, k) + total (λ u. times_pair x y u.published) vs }
publishes_sums vs id v t k at = let w = publishing t k v in λ i. record {
  published = λ x y. grown (λ u. times_pair x y u.published) vs id v w (hit_pair x y (t, k)) at refl i;
  written = λ x y. kept (λ u. times_pair x y u.written) vs id v w at refl i;
}

clash : (b : Bool) → b ≡ false → b ≡ true → ⊥
clash b x y = absurd (cc)

publishes_cells : (p : Script) (part part' : ℕ → ℕ → ℕ) (value : ℕ → ℕ) (m : CellSums) (t k : ℕ) → ((t : ℕ) → p.parts t ≤ 17) → part' t k ≡ p.meant t k → ((x y : ℕ) → y < 17 → ((x ≡ t) → (y ≡ k) → ⊥) → part' x y ≡ part x y)
    → Cells p part value m → Cells p part' value (record m { published = λ x y. hit_pair x y (t, k) + m.published x y })
publishes_cells p part part' value m t k few here others h = record {
  published_as_meant = λ x y own l. let f = few x in ⊎_elim
      (λ q. let a = q.2 in inr (omega arith, (λ i. part' (sym q.0 i) (sym q.1 i)) ∙ (here ∙ λ i. p.meant (q.0 i) (q.1 i))))
      (λ q. let a = q.1 in let e = others x y (omega arith) (λ c d. q.0 (sym c) (sym d)) in ⊎_elim (λ z. let b = z.0 in inl (omega arith, e ∙ z.1)) (λ z. let b = z.0 in inr (omega arith, e ∙ z.1)) (h.published_as_meant x y own l))
      (pair_hits x y (t, k));
  value_of_writers = h.value_of_writers;
}

-- what no pass has published is 0
empty_word : (p : Script) (s : State ℕ View) (id : ℕ) (v : View) (t k : ℕ) → Holds p s → get_elem? s.views id ≡ some v → Held p s v t → k < p.parts t → times_pair t k v.published ≡ 0 → part s.words t k ≡ 0
empty_word p s id v t k h at has lk unset =
    let one = alone p s id v t (λ u. times_pair t k u.published) h at has.has (λ u q pos. let le = pair_le_first t k u.published in q.cells.published_is_begun t (omega arith)) in
    ⊎_elim (λ z. z.1) (λ z. let b = z.0 in absurd (omega arith)) (h.cells.published_as_meant t k has.own lk)

pub publishes : (p : Script) (slots id : ℕ) (me : Me ℕ View) (t k : ℕ) → IsLive me.0 → 0 < times_first t me.0.begins → times_first t me.0.finishes ≡ 0 → k < p.parts t → times_pair t k me.0.published ≡ 0
    → Allows (Holds p) slots id me (part_at t k) (λ _. p.meant t k) (Sets (publishing t k) (step slots (part_at t k) (p.meant t k) 0 none) me)
publishes p slots id me t k live begun unfinished lk unset s h homes at fits = let v = me.0 in let n = p.meant t k in let w = publishing t k v in let ws' = set s.words (part_at t k) n in let a = h.each id v at in let c = counters_same s.views id v w at refl in
    let taken = a.stamps.begun_is_taken t in let has : 0 < times t v.taken = omega arith in let own = (taken_at_most_once p s id v t h at has).0 in let l = h.sound.own_is_below t own in let few = h.sound.parts_few t in let size = h.sized in let size0 = size.0 in (
      w,
      keeps,
      tt,
      record {
        sized = subst (λ k. (38 * p.size < k) × (2 * p.records < k) × (0 < k)) (sym (length-set s.words (part_at t k) n)) size;
        sound = h.sound;
        counters = keep_counters p _ _ _ _ _ _ (others_kept s.words (part_at t k) n need_at (λ x e. absurd (omega arith))) (others_kept s.words (part_at t k) n turn_at (λ x e. absurd (omega arith))) c h.counters;
        stamps = keep_stamps (p.size) _ _ _ _ _ _ (get_or-set_other s.words (part_at t k) 0 n 0 (λ e. absurd (omega arith))) (ap (λ m. m.counted) c) (stamps_same s.views id v w at refl) h.stamps;
        numbers = keep_numbers _ _ (numbers_same s.views id v w at refl) h.numbers;
        cells = subst (λ x. Cells p (part ws') x (cell_sums (set s.views id w))) (sym (others_kept s.words (part_at t k) n value_place (λ x e. absurd (omega arith)))) (subst (Cells p (part ws') (value s.words)) (sym (publishes_sums s.views id v t k at))
            (publishes_cells p (part s.words) (part ws') (value s.words) (cell_sums s.views) t k h.sound.parts_few (get_or-set_same s.words (part_at t k) n 0 (omega arith))
            (λ x y ly other. get_or-set_other s.words (part_at t k) (part_at x y) n 0 (λ e. other (omega arith) (omega arith))) h.cells));
        fixed = λ y j is. let m = h.sound.fixed_is_part y j is in let low = m.1 in let more = h.sound.parts_few y in get_or-set_other s.words (part_at t k) (part_at y j) n 0 (λ e. let same : t ≡ y = omega arith in clash (p.own y) m.0 (subst (λ z. p.own z ≡ true) same own)) ∙ h.fixed y j is;
        numbers_below = below_kept p s id v w h at refl refl;
        each = each_set (Apart p) s.views id w record {
          stamps = a.stamps;
          cells = record {
            published_is_begun = λ x pos. ⊎_elim (λ q. subst (λ z. 0 < times_first z v.begins) q.0 begun) (λ q. let z = q.1 in a.cells.published_is_begun x (omega arith)) (hits x t);
            written_is_begun = a.cells.written_is_begun;
            written_is_meant = a.cells.written_is_meant;
            written_is_published = λ x pos y ly. let b = a.cells.written_is_published x pos y ly in omega arith;
            finished_is_published = λ x pos y ly. let b = a.cells.finished_is_published x pos y ly in omega arith;
            finished_is_written = a.cells.finished_is_written;
          };
          live_or_spent = inl live;
          passes_capped = a.passes_capped;
        } h.each;
      },
      (refl, empty_word p s id v t k h at (held p s id v t h at begun unfinished) lk unset),
    )

-- WriteValue: the cells alone
writes_sums : (vs : List View) (id : ℕ) (v : View) (t r : ℕ) → get_elem? vs id ≡ some v
    → cell_sums (set vs id (writing t r v)) ≡ record (cell_sums vs) { written = λ x y. hit_pair x y (t, r) + total (λ u. times_pair x y u.written) vs }
writes_sums vs id v t r at = let w = writing t r v in λ i. record {
  published = λ x y. kept (λ u. times_pair x y u.published) vs id v w at refl i;
  written = λ x y. grown (λ u. times_pair x y u.written) vs id v w (hit_pair x y (t, r)) at refl i;
}

pair_second : (x r t : ℕ) → hit_pair x r (t, r) ≡ hit x t
pair_second x r t = ⊎_elim (λ q. let a = q.2 in let b = hit_same x t q.0 in omega arith) (λ q. let a = q.1 in let b = hit_else x t (λ e. q.0 e refl) in omega arith) (pair_hits x r (t, r))

writes_cells : (p : Script) (part part' : ℕ → ℕ → ℕ) (value value' : ℕ → ℕ) (m : CellSums) (t r n : ℕ) → ((t : ℕ) → p.parts t ≤ 17) → ((x y : ℕ) → y < 17 → part' x y ≡ part x y) → p.effect t r ≡ Some n → value' r ≡ n → ((y : ℕ) → y ≢ r → value' y ≡ value y)
    → ((s : ℕ) → s < t → Gives p s r → 0 < p.early s r + m.written s r) → ((s : ℕ) → t < s → p.early s r + m.written s r ≡ 0)
    → Cells p part value m → Cells p part' value' (record m { written = λ x y. hit_pair x y (t, r) + m.written x y })
writes_cells p part part' value value' m t r n few same is here others earlier later h = record {
  published_as_meant = λ x y own l. let f = few x in let e = same x y (omega arith) in ⊎_elim (λ z. inl (z.0, e ∙ z.1)) (λ z. inr (z.0, e ∙ z.1)) (h.published_as_meant x y own l);
  value_of_writers = λ y l. dite (ℕ_discrete y r)
      (λ e. subst (λ z. IsAfter p (value' z) (λ x. p.early x z + (hit_pair x z (t, r) + m.written x z)) z) (sym e)
      (writes_value p (value r) (value' r) (λ x. p.early x r + m.written x r) (λ x. p.early x r + (hit_pair x r (t, r) + m.written x r)) r t n (h.value_of_writers r (subst (λ z. z < p.records) e l)) is earlier later here
      (λ x. let a = pair_second x r t in omega arith)))
      (λ ne. after_same p (value y) (value' y) (λ x. p.early x y + m.written x y) (λ x. p.early x y + (hit_pair x y (t, r) + m.written x y)) y (others y ne)
      (λ x. ⊎_elim (λ q. absurd (ne (sym q.1))) (λ q. let a = q.1 in omega arith) (pair_hits x y (t, r))) (h.value_of_writers y l));
}

pub writes : (p : Script) (slots id : ℕ) (me : Me ℕ View) (t r n : ℕ) → IsLive me.0 → 0 < times_first t me.0.begins → times_first t me.0.finishes ≡ 0 → ((k : ℕ) → k < p.parts t → 0 < times_pair t k me.0.published) → p.effect t r ≡ Some n
    → Allows (Holds p) slots id me (value_place r) (λ _. n) (Puts (writing t r) (step slots (value_place r) n 0 none) me)
writes p slots id me t r n live begun unfinished all_published is s h homes at fits = let v = me.0 in let w = writing t r v in let ws' = set s.words (value_place r) n in let a = h.each id v at in let c = counters_same s.views id v w at refl in
    let k = held p s id v t h at begun unfinished in let uses = h.sound.gives_is_use t r (n, is) in let lr = h.sound.used_is_record t r uses in let size = h.sized in let size1 = size.1 in (
      w,
      keeps,
      tt,
      record {
        sized = subst (λ k. (38 * p.size < k) × (2 * p.records < k) × (0 < k)) (sym (length-set s.words (value_place r) n)) size;
        sound = h.sound;
        counters = keep_counters p _ _ _ _ _ _ (others_kept s.words (value_place r) n need_at (λ x e. absurd (omega arith))) (others_kept s.words (value_place r) n turn_at (λ x e. absurd (omega arith))) c h.counters;
        stamps = keep_stamps (p.size) _ _ _ _ _ _ (get_or-set_other s.words (value_place r) 0 n 0 (λ e. absurd (omega arith))) (ap (λ m. m.counted) c) (stamps_same s.views id v w at refl) h.stamps;
        numbers = keep_numbers _ _ (numbers_same s.views id v w at refl) h.numbers;
        cells = subst (Cells p (part ws') (value ws')) (sym (writes_sums s.views id v t r at))
            (writes_cells p (part s.words) (part ws') (value s.words) (value ws') (cell_sums s.views) t r n h.sound.parts_few (λ x y ly. get_or-set_other s.words (value_place r) (part_at x y) n 0 (λ e. absurd (omega arith))) is
            (get_or-set_same s.words (value_place r) n 0 (omega arith)) (λ y ne. get_or-set_other s.words (value_place r) (value_place y) n 0 (λ e. ne (omega arith))) (earlier_put p s id v t r h at k uses) (later_put p s id v t r h at k uses) h.cells);
        fixed = keep_fixed p _ _ h.sound (λ x y ly. get_or-set_other s.words (value_place r) (part_at x y) n 0 (λ e. absurd (omega arith))) h.fixed;
        numbers_below = below_kept p s id v w h at refl refl;
        each = each_set (Apart p) s.views id w record {
          stamps = a.stamps;
          cells = record {
            published_is_begun = a.cells.published_is_begun;
            written_is_begun = λ x pos. ⊎_elim (λ q. subst (λ z. 0 < times_first z v.begins) q.0 begun) (λ q. let z = q.1 in a.cells.written_is_begun x (omega arith)) (hits x t);
            written_is_meant = λ x y pos. ⊎_elim (λ q. (n, (λ i. p.effect (sym q.0 i) (sym q.1 i)) ∙ is)) (λ q. let z = q.1 in a.cells.written_is_meant x y (omega arith)) (pair_hits x y (t, r));
            written_is_published = λ x pos y ly. ⊎_elim (λ q. subst (λ z. 0 < times_pair z y v.published) q.0 (all_published y (subst (λ z. y < p.parts z) (sym q.0) ly))) (λ q. let z = q.1 in a.cells.written_is_published x (omega arith) y ly) (hits x t);
            finished_is_published = a.cells.finished_is_published;
            finished_is_written = λ x pos y gives. let b = a.cells.finished_is_written x pos y gives in omega arith;
          };
          live_or_spent = inl live;
          passes_capped = a.passes_capped;
        } h.each;
      },
      refl,
    )
