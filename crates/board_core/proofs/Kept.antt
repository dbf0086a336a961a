-- What a step leaves alone: each theme of the rule stands where its words and what passes know of it are as before.
use Rattle.std.proofs.Common.{◌≡◌, ◌≢◌, ℕ, ◌<◌, ◌≤◌, inl, inr, ⊎_elim, List, set, get_or, sym, ap, ◌∙◌, subst, arith, get_or-set_other}
use mathlib.Core.Option.{some}
use lib.ListN.{get_elem?}
use Rattle.atomic_table.proofs.Lists.{at_set}
use Rattle.board_core.specs.declared.view.View.{View}
use Rattle.board_core.specs.Counts.{times_pair, times_first, times}
use Rattle.board_core.specs.Script.{Script, IsSound}
use Rattle.board_core.specs.Sums.{counter_part, CounterSums, counters_of, stamp_part, StampSums, both_stamps, stamps_of, stamp_sums, number_part, NumberSums, number_sums, fewer, cell_part, CellSums, cell_sums}
use Rattle.board_core.specs.Rule.{Counters, Stamps, Numbers, Cells, Fixed}
use Rattle.board_core.proofs.Totals.{kept}

-- the words at other places
abbrev pub words_at : (ℕ → ℕ) → List ℕ → ℕ → ℕ
words_at place ws x = get_or ws (place x) 0

pub others_kept : (ws : List ℕ) (i n : ℕ) (place : ℕ → ℕ) → ((x : ℕ) → place x ≢ i) → words_at place (set ws i n) ≡ words_at place ws
others_kept ws i n place other = λ k. λ x. get_or-set_other ws i (place x) n 0 (other x) k

-- the sums of a theme
pub counters_same : (vs : List View) (id : ℕ) (v w : View) → get_elem? vs id ≡ some v → counter_part w ≡ counter_part v → counters_of (set vs id w) ≡ counters_of vs
counters_same vs id v w at e = λ k. record {
  ready = λ x. kept (λ u. times x u.ready) vs id v w at (ap (λ c. times x c.ready) e) k;
  tried = λ x. kept (λ u. times x u.tried) vs id v w at (ap (λ c. times x c.tried) e) k;
  taken = λ x. kept (λ u. times x u.taken) vs id v w at (ap (λ c. times x c.taken) e) k;
  duties = λ x. kept (λ u. times x u.duties) vs id v w at (ap (λ c. times x c.duties) e) k;
  counted = λ x y. kept (λ u. times_pair x y u.counted) vs id v w at (ap (λ c. times_pair x y c.counted) e) k;
}

pub stamps_same : (vs : List View) (id : ℕ) (v w : View) → get_elem? vs id ≡ some v → stamp_part w ≡ stamp_part v → stamp_sums (set vs id w) ≡ stamp_sums vs
stamps_same vs id v w at e = λ k. record {
  begins = λ x y. kept (λ u. times_pair x y u.begins) vs id v w at (ap (λ c. times_pair x y c.begins) e) k;
  finishes = λ x y. kept (λ u. times_pair x y u.finishes) vs id v w at (ap (λ c. times_pair x y c.finishes) e) k;
  begun = λ x. kept (λ u. times_first x u.begins) vs id v w at (ap (λ c. times_first x c.begins) e) k;
  finished = λ x. kept (λ u. times_first x u.finishes) vs id v w at (ap (λ c. times_first x c.finishes) e) k;
  stamps = λ x. kept (stamps_of x) vs id v w at (ap (both_stamps x) e) k;
}

pub numbers_same : (vs : List View) (id : ℕ) (v w : View) → get_elem? vs id ≡ some v → number_part w ≡ number_part v → number_sums (set vs id w) ≡ number_sums vs
numbers_same vs id v w at e = λ k. record {
  numbers = λ x. kept (λ u. times x u.numbers) vs id v w at (ap (λ c. times x c.numbers) e) k;
  makers = kept (λ u. fewer u.passes) vs id v w at (ap (λ c. fewer c.passes) e) k;
}

pub cells_same : (vs : List View) (id : ℕ) (v w : View) → get_elem? vs id ≡ some v → cell_part w ≡ cell_part v → cell_sums (set vs id w) ≡ cell_sums vs
cells_same vs id v w at e = λ k. record {
  published = λ x y. kept (λ u. times_pair x y u.published) vs id v w at (ap (λ c. times_pair x y c.published) e) k;
  written = λ x y. kept (λ u. times_pair x y u.written) vs id v w at (ap (λ c. times_pair x y c.written) e) k;
}

-- a theme stands where its words and its sums are as before
pub keep_counters : (p : Script) (n n' u u' : ℕ → ℕ) (m m' : CounterSums) → n' ≡ n → u' ≡ u → m' ≡ m → Counters p n u m → Counters p n' u' m'
keep_counters p n n' u u' m m' a b c h = subst (λ x. Counters p x u' m') (sym a) (subst (λ x. Counters p n x m') (sym b) (subst (Counters p n u) (sym c) h))

pub keep_stamps : (size c c' : ℕ) (d d' : ℕ → ℕ → ℕ) (m m' : StampSums) → c' ≡ c → d' ≡ d → m' ≡ m → Stamps size c d m → Stamps size c' d' m'
keep_stamps size c c' d d' m m' a b e h = subst (λ x. Stamps size x d' m') (sym a) (subst (λ x. Stamps size c x m') (sym b) (subst (Stamps size c d) (sym e) h))

pub keep_numbers : (m m' : NumberSums) → m' ≡ m → Numbers m → Numbers m'
keep_numbers m m' e h = subst Numbers (sym e) h

pub keep_cells : (p : Script) (q q' : ℕ → ℕ → ℕ) (c c' : ℕ → ℕ) (m m' : CellSums) → ((t : ℕ) → p.parts t ≤ 17) → ((t k : ℕ) → k < 17 → q' t k ≡ q t k) → c' ≡ c → m' ≡ m → Cells p q c m → Cells p q' c' m'
keep_cells p q q' c c' m m' few a b e h = subst (λ x. Cells p q' x m') (sym b) (subst (Cells p q' c) (sym e) record {
  published_as_meant = λ t k own l. let o = few t in let same = a t k (omega arith) in ⊎_elim (λ z. inl (z.0, same ∙ z.1)) (λ z. inr (z.0, same ∙ z.1)) (h.published_as_meant t k own l);
  value_of_writers = h.value_of_writers;
})

-- what holds of each pass holds of each after a step of one
pub each_set : (P : View → Type 0) (vs : List View) (id : ℕ) (w : View) → P w → ((j : ℕ) (u : View) → get_elem? vs j ≡ some u → P u) → (j : ℕ) (u : View) → get_elem? (set vs id w) j ≡ some u → P u
each_set P vs id w mine others j u e = ⊎_elim (λ (x : (j ≡ id) × (w ≡ u)). subst P x.1 mine) (λ (x : (j ≢ id) × (get_elem? vs j ≡ some u)). others j u x.1) (at_set vs id j w u e)

pub keep_fixed : (p : Script) (q q' : ℕ → ℕ → ℕ) → IsSound p → ((t k : ℕ) → k < 17 → q' t k ≡ q t k) → Fixed p q → Fixed p q'
keep_fixed p q q' sound same h = λ t k is. let a = (sound.fixed_is_part t k is).1 in let few = sound.parts_few t in same t k (omega arith) ∙ h t k is
