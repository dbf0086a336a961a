-- A split and a join keep the rule, and what the last pass learns.
use Rattle.std.proofs.Common.{◌≡◌, ◌≢◌, ℕ, ◌+◌, ◌<◌, ◌≤◌, ◌⊎◌, inl, inr, ⊎_elim, List, [], ◌∷◌, ◌++◌, min, set, sym, refl, ap, ◌∙◌, subst, arith}
use Rattle.std.proofs.lemmas.Bool.Decides.{nat_tests}
use mathlib.Core.Option.{some}
use mathlib.Core.Logic.{dite}
use native.Mathlib.Decide.{ℕ_discrete}
use lib.ListN.{get_elem?}
use Rattle.atomic_table.specs.Table.{State, Splits, Joins}
use Rattle.atomic_table.proofs.Lists.{at_set, at_snoc}
use Rattle.board_core.specs.declared.view.View.{View}
use Rattle.board_core.specs.Counts.{times_pair, times_first, total, hit, times}
use Rattle.board_core.specs.Words.{clock, part, value, need, turn}
use Rattle.board_core.specs.Script.{Script}
use Rattle.board_core.specs.Sums.{counters_of, stamps_of, stamp_sums, fewer, cell_sums}
use Rattle.board_core.specs.Rule.{Counters, Stamps, Cells, Apart, Holds, IsLive, spent}
use Rattle.board_core.specs.Steps.{newcomer, splitting, joined}
use Rattle.board_core.proofs.Totals.{hit_same, hits, pair_le_first, total_at, total_two, lone, snoc_grown, snoc_kept, join_kept, total_snoc, total_set, times-append, times_pair-append, times_first-append, times_second-append}

fewer_is : (p : ℕ) → ((p < 16) × (fewer p ≡ 1)) ⊎ ((16 ≤ p) × (fewer p ≡ 0))
fewer_is p = grind (arith, nat_tests)

each_set : (P : View → Type 0) (vs : List View) (id : ℕ) (w : View) → P w → ((j : ℕ) (u : View) → j ≢ id → get_elem? vs j ≡ some u → P u) → (j : ℕ) (u : View) → get_elem? (set vs id w) j ≡ some u → P u
each_set P vs id w mine others j u e = ⊎_elim (λ (x : (j ≡ id) × (w ≡ u)). subst P x.1 mine) (λ (x : (j ≢ id) × (get_elem? vs j ≡ some u)). others j u x.0 x.1) (at_set vs id j w u e)

each_snoc : (P : View → Type 0) (vs : List View) (w : View) → P w → ((j : ℕ) (u : View) → get_elem? vs j ≡ some u → P u) → (j : ℕ) (u : View) → get_elem? (vs ++ w ∷ []) j ≡ some u → P u
each_snoc P vs w mine others j u e = ⊎_elim (λ (x : get_elem? vs j ≡ some u). others j u x) (λ (x : w ≡ u). subst P x mine) (at_snoc vs w u j e)

-- a pass that knows nothing
blank : (p : Script) (u : View) → u.taken ≡ [] → u.counted ≡ [] → u.begins ≡ [] → u.finishes ≡ [] → u.published ≡ [] → u.written ≡ [] → IsLive u ⊎ (u ≡ spent) → u.passes ≤ 16 → Apart p u
blank p u a b c d e f live capped = let c' : (t : ℕ) → times_first t u.begins ≡ 0 = (λ t. ap (times_first t) c) in let d' : (t : ℕ) → times_first t u.finishes ≡ 0 = (λ t. ap (times_first t) d) in
    let e' : (t : ℕ) → times_first t u.published ≡ 0 = (λ t. ap (times_first t) e) in let f' : (t : ℕ) → times_first t u.written ≡ 0 = (λ t. ap (times_first t) f) in let b' : (s t : ℕ) → times_pair s t u.counted ≡ 0 = (λ s t. ap (times_pair s t) b) in record {
      stamps = record {
        begun_is_taken = λ t. let z = c' t in omega arith;
        finished_is_begun = λ t. let z = d' t in omega arith;
        begin_below_finish = λ t x y pos _. absurd (let z = c' t in let l = pair_le_first t x u.begins in omega arith);
        counted_is_finished = λ s t pos. absurd (let z = b' s t in omega arith);
      };
      cells = record {
        published_is_begun = λ t pos. absurd (let z = e' t in omega arith);
        written_is_begun = λ t pos. absurd (let z = f' t in omega arith);
        written_is_meant = λ t r pos. absurd (let z = f' t in let l = pair_le_first t r u.written in omega arith);
        written_is_published = λ t pos k l. absurd (let z = f' t in omega arith);
        finished_is_published = λ t pos k l. absurd (let z = d' t in omega arith);
        finished_is_written = λ t pos r g. absurd (let z = d' t in omega arith);
      };
      live_or_spent = live;
      passes_capped = capped;
    }

pub new_apart : (p : Script) (k : ℕ) → Apart p (newcomer k)
new_apart p k = blank p (newcomer k) refl refl refl refl refl refl (inl (let a = hit_same k k refl in omega arith)) (omega arith)

spent_apart : (p : Script) → Apart p spent
spent_apart p = blank p spent refl refl refl refl refl refl (inr refl) (omega arith)

-- a split: the themes but the numbers
module _ (vs : List View) (id : ℕ) (v : View) (at : get_elem? vs id ≡ some v) where
  split_counters : counters_of (set vs id (splitting v) ++ newcomer v.passes ∷ []) ≡ counters_of vs
  split_counters = let w = splitting v in let u = newcomer v.passes in λ k. record {
    ready = λ x. snoc_kept (λ y. times x y.ready) vs id v w u at refl refl k;
    tried = λ x. snoc_kept (λ y. times x y.tried) vs id v w u at refl refl k;
    taken = λ x. snoc_kept (λ y. times x y.taken) vs id v w u at refl refl k;
    duties = λ x. snoc_kept (λ y. times x y.duties) vs id v w u at refl refl k;
    counted = λ x z. snoc_kept (λ y. times_pair x z y.counted) vs id v w u at refl refl k;
  }

  split_stamps : stamp_sums (set vs id (splitting v) ++ newcomer v.passes ∷ []) ≡ stamp_sums vs
  split_stamps = let w = splitting v in let u = newcomer v.passes in λ k. record {
    begins = λ x z. snoc_kept (λ y. times_pair x z y.begins) vs id v w u at refl refl k;
    finishes = λ x z. snoc_kept (λ y. times_pair x z y.finishes) vs id v w u at refl refl k;
    begun = λ x. snoc_kept (λ y. times_first x y.begins) vs id v w u at refl refl k;
    finished = λ x. snoc_kept (λ y. times_first x y.finishes) vs id v w u at refl refl k;
    stamps = λ x. snoc_kept (stamps_of x) vs id v w u at refl refl k;
  }

  split_cells : cell_sums (set vs id (splitting v) ++ newcomer v.passes ∷ []) ≡ cell_sums vs
  split_cells = let w = splitting v in let u = newcomer v.passes in λ k. record {
    published = λ x z. snoc_kept (λ y. times_pair x z y.published) vs id v w u at refl refl k;
    written = λ x z. snoc_kept (λ y. times_pair x z y.written) vs id v w u at refl refl k;
  }

  split_numbers : (k : ℕ) → total (λ y. times k y.numbers) (set vs id (splitting v) ++ newcomer v.passes ∷ []) ≡ hit k v.passes + total (λ y. times k y.numbers) vs
  split_numbers k = snoc_grown (λ y. times k y.numbers) vs id v (splitting v) (newcomer v.passes) (hit k v.passes) at refl (omega arith)

pub splits : (p : Script) (id : ℕ) (v : View) → IsLive v → v.passes < 16 → Splits (Holds p) id v (splitting v) (newcomer v.passes)
splits p id v live few s h at = let vs = s.views in let w = splitting v in let u = newcomer v.passes in let c = split_counters vs id v at in
    let new : total (λ y. times v.passes y.numbers) vs ≡ 0 = dite (ℕ_discrete (total (λ y. times v.passes y.numbers) vs) 0) (λ z. z) (λ q. absurd (let a = h.numbers_below id v at v.passes (omega arith) in omega arith)) in
    let makers : total (λ y. fewer y.passes) (set vs id w ++ u ∷ []) ≤ 1 = (let a = total_snoc (λ y. fewer y.passes) (set vs id w) u in let b = total_set (λ y. fewer y.passes) vs id v w at in let c = h.numbers.one_maker in
    let d = fewer_is v.passes in let e = fewer_is (v.passes + 1) in let f : fewer 16 ≡ 0 = refl in grind arith) in
    let others : (j : ℕ) (y : View) → j ≢ id → get_elem? vs j ≡ some y → 16 ≤ y.passes = λ j y ne e. (let a = total_two (λ z. fewer z.passes) vs id j v y ne at e in let b = h.numbers.one_maker in let c = fewer_is v.passes in let d = fewer_is y.passes in grind arith) in record {
      sized = h.sized;
      sound = h.sound;
      counters = subst (Counters p (need s.words) (turn s.words)) (sym c) h.counters;
      stamps = subst (λ d. Stamps (p.size) (clock s.words) d (stamp_sums (set vs id w ++ u ∷ []))) (sym (ap (λ m. m.counted) c)) (subst (Stamps (p.size) (clock s.words) (counters_of vs).counted) (sym (split_stamps vs id v at)) h.stamps);
      numbers = record {
        numbers_once = λ k. let all = split_numbers vs id v at k in let a = h.numbers.numbers_once k in ⊎_elim (λ q. let b : total (λ y. times k y.numbers) vs ≡ total (λ y. times v.passes y.numbers) vs = ap (λ z. total (λ y. times z y.numbers) vs) (sym q.0) in let c = q.1 in omega arith) (λ q. let c = q.1 in omega arith) (hits k v.passes);
        one_maker = makers;
      };
      cells = subst (Cells p (part s.words) (value s.words)) (sym (split_cells vs id v at)) h.cells;
      fixed = h.fixed;
      numbers_below = λ i y e k pos. let all = split_numbers vs id v at k in
          let is : (k ≡ v.passes) ⊎ (0 < total (λ z. times k z.numbers) vs) = ⊎_elim (λ q. inl (sym q.0)) (λ q. let z = q.1 in inr (omega arith)) (hits k v.passes) in
          let low : k ≤ v.passes = ⊎_elim (λ e. omega arith) (λ q. let a = h.numbers_below id v at k q in omega arith) is in
          each_snoc (λ z. k < z.passes) (set vs id w) u (omega arith) (each_set (λ z. k < z.passes) vs id w (omega arith) (λ j z ne d. let a = others j z ne d in omega arith)) i y e;
      each = each_snoc (Apart p) (set vs id w) u (new_apart p v.passes) (each_set (Apart p) vs id w (let a = h.each id v at in record { stamps = a.stamps; cells = a.cells; live_or_spent = inl live; passes_capped = omega arith }) (λ j z _ d. h.each j z d));
    }

-- a join: the themes but the numbers
module _ (vs : List View) (id other : ℕ) (v u : View) (at : get_elem? vs id ≡ some v) (too : get_elem? (set vs id (joined v u)) other ≡ some u) where
  join_counters : counters_of (set (set vs id (joined v u)) other spent) ≡ counters_of vs
  join_counters = let w = joined v u in λ k. record {
    ready = λ x. join_kept (λ y. times x y.ready) vs id other v u w spent at too (let e = times-append x v.ready u.ready in omega arith) k;
    tried = λ x. join_kept (λ y. times x y.tried) vs id other v u w spent at too (let e = times-append x v.tried u.tried in omega arith) k;
    taken = λ x. join_kept (λ y. times x y.taken) vs id other v u w spent at too (let e = times-append x v.taken u.taken in omega arith) k;
    duties = λ x. join_kept (λ y. times x y.duties) vs id other v u w spent at too (let e = times-append x v.duties u.duties in omega arith) k;
    counted = λ x z. join_kept (λ y. times_pair x z y.counted) vs id other v u w spent at too (let e = times_pair-append x z v.counted u.counted in omega arith) k;
  }

  join_stamps : stamp_sums (set (set vs id (joined v u)) other spent) ≡ stamp_sums vs
  join_stamps = let w = joined v u in λ k. record {
    begins = λ x z. join_kept (λ y. times_pair x z y.begins) vs id other v u w spent at too (let e = times_pair-append x z v.begins u.begins in omega arith) k;
    finishes = λ x z. join_kept (λ y. times_pair x z y.finishes) vs id other v u w spent at too (let e = times_pair-append x z v.finishes u.finishes in omega arith) k;
    begun = λ x. join_kept (λ y. times_first x y.begins) vs id other v u w spent at too (let e = times_first-append x v.begins u.begins in omega arith) k;
    finished = λ x. join_kept (λ y. times_first x y.finishes) vs id other v u w spent at too (let e = times_first-append x v.finishes u.finishes in omega arith) k;
    stamps = λ x. join_kept (stamps_of x) vs id other v u w spent at too (let e = times_second-append x v.begins u.begins in let f = times_second-append x v.finishes u.finishes in omega arith) k;
  }

  join_cells : cell_sums (set (set vs id (joined v u)) other spent) ≡ cell_sums vs
  join_cells = let w = joined v u in λ k. record {
    published = λ x z. join_kept (λ y. times_pair x z y.published) vs id other v u w spent at too (let e = times_pair-append x z v.published u.published in omega arith) k;
    written = λ x z. join_kept (λ y. times_pair x z y.written) vs id other v u w spent at too (let e = times_pair-append x z v.written u.written in omega arith) k;
  }

  join_numbers : (x : ℕ) → total (λ y. times x y.numbers) (set (set vs id (joined v u)) other spent) ≡ total (λ y. times x y.numbers) vs
  join_numbers x = join_kept (λ y. times x y.numbers) vs id other v u (joined v u) spent at too (let e = times-append x v.numbers u.numbers in omega arith)

min_fewer : (p q : ℕ) → fewer (min p q) ≤ fewer p + fewer q
min_fewer p q = let a = fewer_is p in let b = fewer_is q in let c = fewer_is (min p q) in grind arith

-- what stands in one of two lists
in_both : (t : ℕ) (xs ys : List (ℕ × ℕ)) → 0 < times_first t (xs ++ ys) → (0 < times_first t xs) ⊎ (0 < times_first t ys)
in_both t xs ys pos = let a = times_first-append t xs ys in dite (ℕ_discrete (times_first t xs) 0) (λ z. inr (omega arith)) (λ n. inl (omega arith))

pair_in_both : (s t : ℕ) (xs ys : List (ℕ × ℕ)) → 0 < times_pair s t (xs ++ ys) → (0 < times_pair s t xs) ⊎ (0 < times_pair s t ys)
pair_in_both s t xs ys pos = let a = times_pair-append s t xs ys in dite (ℕ_discrete (times_pair s t xs) 0) (λ z. inr (omega arith)) (λ n. inl (omega arith))

left_in : (t : ℕ) (xs ys : List (ℕ × ℕ)) → 0 < times_first t xs → 0 < times_first t (xs ++ ys)
left_in t xs ys pos = let a = times_first-append t xs ys in omega arith

right_in : (t : ℕ) (xs ys : List (ℕ × ℕ)) → 0 < times_first t ys → 0 < times_first t (xs ++ ys)
right_in t xs ys pos = let a = times_first-append t xs ys in omega arith

pair_left : (s t : ℕ) (xs ys : List (ℕ × ℕ)) → 0 < times_pair s t xs → 0 < times_pair s t (xs ++ ys)
pair_left s t xs ys pos = let a = times_pair-append s t xs ys in omega arith

pair_right : (s t : ℕ) (xs ys : List (ℕ × ℕ)) → 0 < times_pair s t ys → 0 < times_pair s t (xs ++ ys)
pair_right s t xs ys pos = let a = times_pair-append s t xs ys in omega arith

pub merges : (p : Script) (id other : ℕ) (v u : View) → IsLive v → Joins (Holds p) id v other u (joined v u) spent
merges p id other v u live s h at apart too = let vs = s.views in let w = joined v u in let c = join_counters vs id other v u at too in
    let was : get_elem? vs other ≡ some u = ⊎_elim (λ x. absurd (apart x.0)) (λ x. x.1) (at_set vs id other w u too) in
    let makers : total (λ y. fewer y.passes) (set (set vs id w) other spent) ≤ 1 = (let a = total_set (λ y. fewer y.passes) vs id v w at in let b = total_set (λ y. fewer y.passes) (set vs id w) other u spent too in let c = h.numbers.one_maker in
    let d = min_fewer v.passes u.passes in let f : fewer 16 ≡ 0 = refl in omega arith) in
    let first = h.each id v at in let second = h.each other u was in let a = first.stamps in let b = second.stamps in let d = first.cells in let e = second.cells in
    let one : (x : ℕ) → times x v.taken + times x u.taken ≤ 1 = λ x. dite (ℕ_discrete (times x v.taken + times x u.taken) 0) (λ z. omega arith)
    (λ q. let both = total_two (λ y. times x y.taken) vs id other v u apart at was in let own = (h.counters.ready_has_no_need x (omega arith)).0 in let o = h.counters.taken_once x own in let c = o.0 in let d = o.1 in omega arith) in record {
      sized = h.sized;
      sound = h.sound;
      counters = subst (Counters p (need s.words) (turn s.words)) (sym c) h.counters;
      stamps = subst (λ d. Stamps (p.size) (clock s.words) d (stamp_sums (set (set vs id w) other spent))) (sym (ap (λ m. m.counted) c)) (subst (Stamps (p.size) (clock s.words) (counters_of vs).counted) (sym (join_stamps vs id other v u at too)) h.stamps);
      numbers = record { numbers_once = λ k. let n = join_numbers vs id other v u at too k in let o = h.numbers.numbers_once k in omega arith; one_maker = makers };
      cells = subst (Cells p (part s.words) (value s.words)) (sym (join_cells vs id other v u at too)) h.cells;
      fixed = h.fixed;
      numbers_below = λ i y is k pos. let all = join_numbers vs id other v u at too k in
          let low : (j : ℕ) (z : View) → get_elem? vs j ≡ some z → k < z.passes = λ j z d. h.numbers_below j z d k (omega arith) in let q = low id v at in let r = low other u was in
          each_set (λ z. k < z.passes) (set vs id w) other spent (let c = first.passes_capped in omega arith) (λ j z _ d. each_set (λ z. k < z.passes) vs id w (omega arith) (λ j z _ d. low j z d) j z d) i y is;
      each = each_set (Apart p) (set vs id w) other spent (spent_apart p) (λ j z _ at'. each_set (Apart p) vs id w record {
        stamps = record {
          begun_is_taken = λ t. let p = a.begun_is_taken t in let q = b.begun_is_taken t in let r = times_first-append t v.begins u.begins in let o = times-append t v.taken u.taken in omega arith;
          finished_is_begun = λ t. let p = a.finished_is_begun t in let q = b.finished_is_begun t in let r = times_first-append t v.begins u.begins in let o = times_first-append t v.finishes u.finishes in omega arith;
          begin_below_finish = λ t x y begins finishes. let p = times_pair-append t x v.begins u.begins in let q = times_pair-append t y v.finishes u.finishes in
              let c = one t in let d = a.begun_is_taken t in let e = b.begun_is_taken t in let f = a.finished_is_begun t in let i = b.finished_is_begun t in
              let n = pair_le_first t x v.begins in let o = pair_le_first t x u.begins in let r = pair_le_first t y v.finishes in let l = pair_le_first t y u.finishes in
              dite (ℕ_discrete (times_pair t x v.begins) 0) (λ z. b.begin_below_finish t x y (omega arith) (omega arith)) (λ z. a.begin_below_finish t x y (omega arith) (omega arith));
          counted_is_finished = λ x y pos. ⊎_elim (λ q. left_in x v.finishes u.finishes (a.counted_is_finished x y q)) (λ q. right_in x v.finishes u.finishes (b.counted_is_finished x y q)) (pair_in_both x y v.counted u.counted pos);
        };
        cells = record {
          published_is_begun = λ t pos. ⊎_elim (λ q. left_in t v.begins u.begins (d.published_is_begun t q)) (λ q. right_in t v.begins u.begins (e.published_is_begun t q)) (in_both t v.published u.published pos);
          written_is_begun = λ t pos. ⊎_elim (λ q. left_in t v.begins u.begins (d.written_is_begun t q)) (λ q. right_in t v.begins u.begins (e.written_is_begun t q)) (in_both t v.written u.written pos);
          written_is_meant = λ t r pos. ⊎_elim (d.written_is_meant t r) (e.written_is_meant t r) (pair_in_both t r v.written u.written pos);
          written_is_published = λ t pos k l. ⊎_elim (λ q. pair_left t k v.published u.published (d.written_is_published t q k l)) (λ q. pair_right t k v.published u.published (e.written_is_published t q k l)) (in_both t v.written u.written pos);
          finished_is_published = λ t pos k l. ⊎_elim (λ q. pair_left t k v.published u.published (d.finished_is_published t q k l)) (λ q. pair_right t k v.published u.published (e.finished_is_published t q k l)) (in_both t v.finishes u.finishes pos);
          finished_is_written = λ t pos r g. ⊎_elim (λ q. pair_left t r v.written u.written (d.finished_is_written t q r g)) (λ q. pair_right t r v.written u.written (e.finished_is_written t q r g)) (in_both t v.finishes u.finishes pos);
        };
        live_or_spent = inl (let p = times-append v.number v.numbers u.numbers in omega arith);
        passes_capped = let c = first.passes_capped in omega arith;
      } (λ j z _ d. h.each j z d) j z at');
    }

-- the pass that has taken in the numbers of all passes has all that any pass has
pub settled : (p : Script) (s : State ℕ View) (id : ℕ) (v : View) → Holds p s → get_elem? s.views id ≡ some v → ((k : ℕ) → k < v.passes → 0 < times k v.numbers) → (f : View → ℕ) → f spent ≡ 0 → total f s.views ≡ f v
settled p s id v h at all f nothing = lone f s.views id v at (λ j u ne e. ⊎_elim
    (λ lives. absurd (let a = total_at (λ z. times u.number z.numbers) s.views j u e in let b = h.numbers_below id v at u.number (omega arith) in let c = all u.number b in
    let d = total_two (λ z. times u.number z.numbers) s.views id j v u ne at e in let o = h.numbers.numbers_once u.number in omega arith))
    (λ is. ap f is ∙ nothing) (h.each j u e).live_or_spent)
