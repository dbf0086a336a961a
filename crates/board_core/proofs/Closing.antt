-- What stands when the pass that has taken in all passes closes the board: what runs has finished, its words are as meant, and its runs are a trace.
use Rattle.std.proofs.Common.{◌≡◌, ◌≢◌, ℕ, zero, suc, Bool, true, false, ◌+◌, ◌*◌, ◌<◌, ◌≤◌, ⊎_elim, List, [], ◌∷◌, sym, refl, ap, ◌∙◌, subst, arith, Option, Some, None}
use mathlib.Core.Option.{some}
use mathlib.Core.Logic.{dite}
use native.Mathlib.Decide.{ℕ_discrete}
use lib.ListN.{get_elem?}
use Rattle.atomic_table.specs.Table.{State}
use Rattle.board_core.specs.declared.view.View.{View}
use Rattle.board_core.specs.Counts.{Run, IsAmong, times_run, hit_pair, times_pair, times_first, times_second, below, once_below, hit, times}
use Rattle.board_core.specs.Words.{clock, part}
use Rattle.board_core.specs.Script.{Script, IsOwn, Runs}
use Rattle.board_core.specs.Sums.{counters_of, stamp_sums, stamps_of}
use Rattle.board_core.specs.Rule.{Holds}
use Rattle.std.specs.Prelude.{is_some}
use Rattle.board_core.specs.Passes.{IsSettled, IsComplete, IsDone, Fits}
use Rattle.board_core.specs.Traces.{IsTrace, one_if, count_of, stamp_hits}
use Rattle.board_core.proofs.Totals.{hit_same, hit_else, hits, pair_hits, pair_le_first, total_at, below_zero, below-add, below_one}
use Rattle.board_core.proofs.Bases.{settled}

pub same_below : (n : ℕ) (f h : ℕ → ℕ) → ((x : ℕ) → x < n → f x ≡ h x) → below n f ≡ below n h
same_below zero f h e = refl
same_below (suc n) f h e = let a = same_below n f h (λ x l. e x (omega arith)) in let b = e n (omega arith) in omega arith

-- two pairs with one first part
two_pairs : (t x y : ℕ) (xs : List (ℕ × ℕ)) → x ≢ y → times_pair t x xs + times_pair t y xs ≤ times_first t xs
two_pairs t x y [] ne = omega arith
two_pairs t x y (z ∷ zs) ne = let h = two_pairs t x y zs ne in
    ⊎_elim (λ q. let a = q.2 in let b = hit_same t z.0 q.0 in ⊎_elim (λ r. absurd (ne (sym q.1 ∙ r.1))) (λ r. let d = r.1 in omega arith) (pair_hits t y z))
    (λ q. let a = q.1 in ⊎_elim (λ r. let d = r.2 in let b = hit_same t z.0 r.0 in omega arith) (λ r. let d = r.1 in omega arith) (pair_hits t y z)) (pair_hits t x z)

-- where one pair at most begins with t, and that of y does, the pair of x is there where x is y
one_pair : (t x y : ℕ) (xs : List (ℕ × ℕ)) → times_first t xs ≤ 1 → 0 < times_pair t y xs → hit x y ≡ times_pair t x xs
one_pair t x y xs most pos = let le = pair_le_first t x xs in ⊎_elim
    (λ q. let a = q.1 in let same : times_pair t y xs ≡ times_pair t x xs = ap (λ z. times_pair t z xs) q.0 in omega arith)
    (λ q. let a = q.1 in let two = two_pairs t x y xs (λ e. q.0 (sym e)) in omega arith) (hits x y)

-- the run of a position, where there is one at most
among_counts : (t : ℕ) (r : Run) (xs : List Run) → r.0 ≡ t → IsAmong r xs → 0 < times_run t xs
among_counts t r [] e h = absurd h
among_counts t r (x ∷ xs) e h = ⊎_elim (λ is. let a = hit_same t x.0 (ap (λ (z : Run). z.0) is ∙ e) in omega arith) (λ old. let a = among_counts t r xs e old in omega arith) h

one_run : (t : ℕ) (a b : Run) (xs : List Run) → a.0 ≡ t → b.0 ≡ t → times_run t xs ≤ 1 → IsAmong a xs → IsAmong b xs → a ≡ b
one_run t a b [] ea eb most ha hb = absurd ha
one_run t a b (x ∷ xs) ea eb most ha hb = ⊎_elim
    (λ p. ⊎_elim (λ q. sym p ∙ q) (λ q. absurd (let c = among_counts t b xs eb q in let d = hit_same t x.0 (ap (λ (z : Run). z.0) p ∙ ea) in omega arith)) hb)
    (λ p. ⊎_elim (λ q. absurd (let c = among_counts t a xs ea p in let d = hit_same t x.0 (ap (λ (z : Run). z.0) q ∙ eb) in omega arith)) (λ q. one_run t a b xs ea eb (omega arith) p q) hb) ha

some_of : (o : Option Run) → is_some o ≡ true → (r : Run) × (o ≡ Some r)
some_of (Some r) e = (r, refl)
some_of None e = absurd (cc)

some-not-none : {o : Option Run} {r : Run} → o ≡ Some r → o ≡ None → ⊥
some-not-none is none = absurd (cc)

none_of : (o : Option Run) → ((r : Run) → o ≡ Some r → ⊥) → o ≡ None
none_of (Some r) never = absurd (never r refl)
none_of None never = refl

tells : (b : Bool) → b ≡ true → b ≡ false → ⊥
tells true x y = absurd (cc)
tells false x y = absurd (cc)

-- the pairs that end with x, counted by what they begin with
by_first : (n x : ℕ) (xs : List (ℕ × ℕ)) → ((t : ℕ) → 0 < times_first t xs → t < n) → times_second x xs ≡ below n (λ t. times_pair t x xs)
by_first n x [] small = sym (below_zero n (λ t. 0) (λ t l. refl))
by_first n x (z ∷ zs) small = let first = small z.0 (let a = hit_same z.0 z.0 refl in omega arith) in let h = by_first n x zs (λ t pos. small t (omega arith)) in
    let a = below-add n (λ t. hit_pair t x z) (λ t. times_pair t x zs) in
    let b = below_one n z.0 (λ t. hit_pair t x z) first (λ t ne. ⊎_elim (λ q. absurd (ne (sym q.0))) (λ q. q.1) (pair_hits t x z)) in
    let c : hit_pair z.0 x z ≡ hit x z.1 = ⊎_elim (λ q. let d = q.2 in let e = hit_same x z.1 q.1 in omega arith) (λ q. let d = q.1 in let e = hit_else x z.1 (λ k. q.0 refl k) in omega arith) (pair_hits z.0 x z) in omega arith

module _ (p : Script) (s : State ℕ View) (id : ℕ) (v : View) (h : Holds p s) (at : get_elem? s.views id ≡ some v) (all : IsComplete v) (settled' : IsSettled p v) (done : IsDone v) where
  finishes_below : (m t : ℕ) → t < m → Runs p t → 0 < times_first t v.finishes
  finishes_below zero t l runs = absurd (omega arith)
  finishes_below (suc m) t l runs = let only = h.sound.runs_only t runs in let own = only.0 in
      let counted : (x : ℕ) → x < p.size → (counters_of s.views).counted x t ≡ p.edge x t = (λ x _. dite (ℕ_discrete (p.edge x t) 0)
      (λ z. let c = h.counters.counted_once x t in omega arith)
      (λ q. let f = (h.sound.edge_is_forward x t (omega arith)).0 in let before = finishes_below m x (omega arith) (only.1 x (omega arith)) in
      let mine = settled p s id v h at all (λ u. times_pair x t u.counted) refl in let le = settled'.counted x t before in let c = h.counters.counted_once x t in omega arith)) in
      let same = same_below p.size (λ x. (counters_of s.views).counted x t) (λ x. p.edge x t) counted in
      let balance = h.counters.needs_balance t own in
      let duty = h.counters.ready_is_duty t own (omega arith) in
      let mine = settled p s id v h at all (λ u. times t u.duties) refl in
      let try = done.tried t (omega arith) in
      let tries = total_at (λ u. times t u.tried) s.views id v at in
      let turned = h.counters.tried_is_taken t (omega arith) in
      let taken = (h.counters.taken_once t own).0 in
      let held = settled p s id v h at all (λ u. times t u.taken) refl in
      done.finished t (done.begun t (omega arith))

  pub finishes_all : (t : ℕ) → Runs p t → 0 < times_first t v.finishes
  finishes_all t runs = finishes_below (suc t) t (omega arith) runs

  finished_begun : (t : ℕ) → times_first t v.finishes ≤ times_first t v.begins
  finished_begun t = (h.each id v at).stamps.finished_is_begun t

  begun_runs : (t : ℕ) → 0 < times_first t v.begins → Runs p t
  begun_runs t pos = settled'.runs t pos

  begun_at_most : (t : ℕ) → times_first t v.begins ≤ 1
  begun_at_most t = let a = (h.each id v at).stamps.begun_is_taken t in let b = total_at (λ u. times t u.taken) s.views id v at in dite (ℕ_discrete (times_first t v.begins) 0) (λ z. omega arith)
      (λ n. let own = (h.sound.runs_only t (begun_runs t (omega arith))).0 in let o = h.counters.taken_once t own in let c = o.0 in let d = o.1 in omega arith)

  -- the words of what ran are as meant, and those of what did not are 0
  pub word_runs : (t k : ℕ) → Runs p t → k < p.parts t → part s.words t k ≡ p.meant t k
  word_runs t k runs l = let own = (h.sound.runs_only t runs).0 in let q = (h.each id v at).cells.finished_is_published t (finishes_all t runs) k l in let le = total_at (λ u. times_pair t k u.published) s.views id v at in
      ⊎_elim (λ z. absurd (let a = z.0 in omega arith)) (λ z. z.1) (h.cells.published_as_meant t k own l)

  pub word_rests : (t k : ℕ) → IsOwn p t → (Runs p t → ⊥) → k < p.parts t → part s.words t k ≡ 0
  word_rests t k own rests l = ⊎_elim (λ z. z.1) (λ z. absurd (let a = z.0 in let mine = settled p s id v h at all (λ u. times_pair t k u.published) refl in let le = pair_le_first t k v.published in
      rests (begun_runs t ((h.each id v at).cells.published_is_begun t (omega arith))))) (h.cells.published_as_meant t k own l)

  module _ (duty try : List Bool) (begins : List ℕ) (run_at : ℕ → Option Run) (fits : Fits v duty try begins run_at) where
    -- the run at the place of what runs
    run_of : (t : ℕ) → Runs p t → (r : Run) × (run_at t ≡ Some r)
    run_of t runs = let a = finishes_all t runs in let b = settled'.spans.each t in some_of (run_at t) (fits.has_run t (omega arith))

    -- a place with a run: its stamps are those of the position
    begin_in : (t : ℕ) (r : Run) → run_at t ≡ Some r → 0 < times_pair t r.2 v.begins
    begin_in t r is = let a = fits.run t r is in subst (λ z. 0 < times_pair z r.2 v.begins) a.0 (settled'.spans.begun r a.1)

    finish_in : (t : ℕ) (r : Run) → run_at t ≡ Some r → 0 < times_pair t r.3 v.finishes
    finish_in t r is = let a = fits.run t r is in subst (λ z. 0 < times_pair z r.3 v.finishes) a.0 (settled'.spans.finished r a.1)

    run_runs : (t : ℕ) (r : Run) → run_at t ≡ Some r → Runs p t
    run_runs t r is = let a = begin_in t r is in let le = pair_le_first t r.2 v.begins in begun_runs t (omega arith)

    -- the stamps at a place are those that the pass has of the position
    hits_at : (t x : ℕ) → stamp_hits x (run_at t) ≡ times_pair t x v.begins + times_pair t x v.finishes
    hits_at t x = go (run_at t) refl
      where
        go : (o : Option Run) → run_at t ≡ o → stamp_hits x o ≡ times_pair t x v.begins + times_pair t x v.finishes
        go (Some r) is = let most = begun_at_most t in let less = finished_begun t in let b = begin_in t r is in let f = finish_in t r is in
            let a = one_pair t x r.2 v.begins most b in let c = one_pair t x r.3 v.finishes (omega arith) f in omega arith
        go None is = let b = pair_le_first t x v.begins in let f = pair_le_first t x v.finishes in let less = finished_begun t in
            dite (ℕ_discrete (times_first t v.begins) 0) (λ z. omega arith) (λ n. absurd (some-not-none (run_of t (begun_runs t (omega arith))).1 is))

    small_first : (t : ℕ) → 0 < times_first t v.begins → t < p.size
    small_first t pos = h.sound.own_is_below t (h.sound.runs_only t (begun_runs t pos)).0

    begun_one : (t : ℕ) → (stamp_sums s.views).begun t ≡ one_if (p.runs t)
    begun_one t = settled p s id v h at all (λ u. times_first t u.begins) refl ∙ go (p.runs t) refl
      where
        go : (b : Bool) → p.runs t ≡ b → times_first t v.begins ≡ one_if b
        go true e = let a = finishes_all t e in let b = finished_begun t in let c = begun_at_most t in omega arith
        go false e = dite (ℕ_discrete (times_first t v.begins) 0) (λ z. z) (λ n. absurd (tells (p.runs t) (begun_runs t (omega arith)) e))

    finished_one : (t : ℕ) → (stamp_sums s.views).finished t ≡ one_if (p.runs t)
    finished_one t = let a = settled p s id v h at all (λ u. times_first t u.finishes) refl in let b = settled p s id v h at all (λ u. times_first t u.begins) refl in let c = begun_one t in let d = finished_begun t in
        dite (ℕ_discrete (times_first t v.begins) 0) (λ z. omega arith) (λ n. let e = finishes_all t (begun_runs t (omega arith)) in let f = begun_at_most t in omega arith)

    clock_is : clock s.words ≡ 2 * count_of p
    clock_is = let a = h.stamps.clock_counts in let b = same_below p.size (stamp_sums s.views).begun (λ t. one_if (p.runs t)) (λ t l. begun_one t) in let c = same_below p.size (stamp_sums s.views).finished (λ t. one_if (p.runs t)) (λ t l. finished_one t) in omega arith

    -- a run of the pass stands at its place
    known_at : (r : Run) → IsAmong r v.spans → run_at r.0 ≡ Some r
    known_at r among = let f = settled'.spans.finished r among in let le = pair_le_first r.0 r.3 v.finishes in let less = finished_begun r.0 in let most = begun_at_most r.0 in let each = settled'.spans.each r.0 in
        let there = run_of r.0 (begun_runs r.0 (omega arith)) in let q = fits.run r.0 there.0 there.1 in
        there.1 ∙ ap (λ (z : Run). Some z) (one_run r.0 there.0 r v.spans q.0 refl (omega arith) q.1 among)

    pub traces : IsTrace p v run_at
    traces = record {
      ran = λ t runs. ap is_some (run_of t runs).1;
      rested = λ t rests. none_of (run_at t) (λ r is. rests (run_runs t r is));
      place = fits.run;
      known = known_at;
      by_pass = λ t r is. let number = settled'.spans.numbered r (fits.run t r is).1 in let all_numbers = total_at (λ u. times r.1 u.numbers) s.views id v at in
          let low = h.numbers_below id v at r.1 (omega arith) in let cap = (h.each id v at).passes_capped in (number, omega arith);
      forward = λ t r is. (h.each id v at).stamps.begin_below_finish t r.2 r.3 (begin_in t r is) (finish_in t r is);
      ordered = λ x y a b is first second. let le = settled'.counted x y (finishes_all x (run_runs x a first)) in let q = total_at (λ u. times_pair x y u.counted) s.views id v at in
          let begin = begin_in y b second in let finish = finish_in x a first in let r = total_at (λ u. times_pair y b.2 u.begins) s.views id v at in let w = total_at (λ u. times_pair x a.3 u.finishes) s.views id v at in
          h.stamps.stamps_in_order x y b.2 a.3 (omega arith) (omega arith) (omega arith);
      each_once = λ x. let a = same_below p.size (λ t. stamp_hits x (run_at t)) (λ t. times_pair t x v.begins + times_pair t x v.finishes) (λ t l. hits_at t x) in
          let b = below-add p.size (λ t. times_pair t x v.begins) (λ t. times_pair t x v.finishes) in
          let c = by_first p.size x v.begins small_first in let d = by_first p.size x v.finishes (λ t pos. small_first t (let fb = finished_begun t in omega arith)) in
          let mine = settled p s id v h at all (stamps_of x) refl in let once = h.stamps.stamps_once x in let e : once_below (clock s.words) x ≡ once_below (2 * count_of p) x = ap (λ n. once_below n x) clock_is in omega arith;
    }
