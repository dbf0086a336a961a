-- What is held, after each call.
use Rattle.std.proofs.Common.{◌≡◌, ◌≢◌, ℕ, true, cond, ◌==◌, ◌<◌, List, [], ◌∷◌, ◌++◌, sym, refl, ap, ◌∙◌, subst, arith, eq-eqb, ne_eqb}
use mathlib.Core.Logic.{dite}
use native.Mathlib.Decide.{ℕ_discrete}
use Rattle.board_defs.specs.Closure.{is_own}
use Rattle.board_core.specs.declared.view.View.{View}
use Rattle.board_core.specs.Counts.{times_first, times}
use Rattle.board_core.specs.Steps.{joined}
use Rattle.board_core.specs.Passes.{IsHeld, Ends}
use Rattle.board_core.proofs.Totals.{hit_same, hit_else, times_first-append}
use Rattle.std.proofs.Common.{map}
use Rattle.std.proofs.lemmas.List.{map-append}
use Rattle.board_work.specs.Spans.{span_of}
use Rattle.board_work.specs.declared.plan.Span as declared
use Rattle.script_laws.specs.Placed.{span_of_run}
use Rattle.board_frame.specs.Seen.{open_of, state_of_view}
use Rattle.board_work.specs.PassStates.{Home, without, Ended, joined_state}

cond_yes : (n : ℕ) (x : ℕ) (xs : List ℕ) → n ≡ 0 → cond (n == 0) (x ∷ xs) xs ≡ x ∷ xs
cond_yes n x xs e = ap (λ b. cond b (x ∷ xs) xs) (eq-eqb n 0 e)

cond_no : (n : ℕ) (x : ℕ) (xs : List ℕ) → n ≢ 0 → cond (n == 0) (x ∷ xs) xs ≡ xs
cond_no n x xs ne = ap (λ b. cond b (x ∷ xs) xs) (ne_eqb n 0 ne)

-- what is held has begun and isn't finished
pub open_is : (bs fs : List (ℕ × ℕ)) (t : ℕ) → 0 < times t (open_of bs fs) → (0 < times_first t bs) × (times_first t fs ≡ 0)
open_is [] fs t pos = absurd (omega arith)
open_is (x ∷ bs) fs t pos = dite (ℕ_discrete (times_first x.0 fs) 0)
    (λ e. let h = subst (λ xs. 0 < times t xs) (cond_yes (times_first x.0 fs) x.0 (open_of bs fs) e) pos in
    dite (ℕ_discrete x.0 t) (λ s. let one = hit_same t x.0 s in (omega arith, subst (λ k. times_first k fs ≡ 0) s e))
    (λ n. let none = hit_else t x.0 n in let r = open_is bs fs t (omega arith) in let r0 = r.0 in (omega arith, r.1)))
    (λ ne. let r = open_is bs fs t (subst (λ xs. 0 < times t xs) (cond_no (times_first x.0 fs) x.0 (open_of bs fs) ne) pos) in let r0 = r.0 in (omega arith, r.1))

pub held_is : (h : Home) (v : View) (t : ℕ) → 0 < times t (state_of_view h v).held → IsHeld v t
held_is h v t pos = let r = open_is v.begins v.finishes t pos in record { begun = r.0; unfinished = r.1 }

without_yes : (t x : ℕ) (xs : List ℕ) → x ≡ t → without t (x ∷ xs) ≡ without t xs
without_yes t x xs e = ap (λ b. cond b (without t xs) (x ∷ without t xs)) (eq-eqb x t e)

without_no : (t x : ℕ) (xs : List ℕ) → x ≢ t → without t (x ∷ xs) ≡ x ∷ without t xs
without_no t x xs ne = ap (λ b. cond b (without t xs) (x ∷ without t xs)) (ne_eqb x t ne)

-- a finish takes t alone
pub open_finished : (bs fs : List (ℕ × ℕ)) (t f : ℕ) → open_of bs ((t, f) ∷ fs) ≡ without t (open_of bs fs)
open_finished [] fs t f = refl
open_finished (x ∷ bs) fs t f =
    let rest = open_finished bs fs t f in
    dite (ℕ_discrete x.0 t)
    (λ s. let one = hit_same x.0 t (sym s) in
    cond_no (times_first x.0 ((t, f) ∷ fs)) x.0 (open_of bs ((t, f) ∷ fs)) (λ z. absurd (omega arith)) ∙ (rest
    ∙ dite (ℕ_discrete (times_first x.0 fs) 0) (λ e. sym (ap (without t) (cond_yes (times_first x.0 fs) x.0 (open_of bs fs) e) ∙ without_yes t x.0 (open_of bs fs) s))
    (λ ne. sym (ap (without t) (cond_no (times_first x.0 fs) x.0 (open_of bs fs) ne)))))
    (λ n. let none = hit_else x.0 t (λ s. n (sym s)) in
    dite (ℕ_discrete (times_first x.0 fs) 0)
    (λ e. cond_yes (times_first x.0 ((t, f) ∷ fs)) x.0 (open_of bs ((t, f) ∷ fs)) (omega arith) ∙ (ap (λ xs. x.0 ∷ xs) rest
    ∙ sym (ap (without t) (cond_yes (times_first x.0 fs) x.0 (open_of bs fs) e) ∙ without_no t x.0 (open_of bs fs) n)))
    (λ ne. cond_no (times_first x.0 ((t, f) ∷ fs)) x.0 (open_of bs ((t, f) ∷ fs)) (λ z. ne (omega arith)) ∙ (rest ∙ sym (ap (without t) (cond_no (times_first x.0 fs) x.0 (open_of bs fs) ne)))))

-- where nothing is open, each that has begun is finished, and the other way round
pub open_none : (bs fs : List (ℕ × ℕ)) → open_of bs fs ≡ [] → (t : ℕ) → 0 < times_first t bs → 0 < times_first t fs
open_none [] fs none t pos = absurd (omega arith)
open_none (x ∷ bs) fs none t pos = dite (ℕ_discrete (times_first x.0 fs) 0)
    (λ e. absurd (not_nil x.0 (open_of bs fs) (sym (cond_yes (times_first x.0 fs) x.0 (open_of bs fs) e) ∙ none)))
    (λ ne. dite (ℕ_discrete x.0 t) (λ s. subst (λ k. 0 < times_first k fs) s (omega arith))
    (λ n. let z = hit_else t x.0 n in open_none bs fs (sym (cond_no (times_first x.0 fs) x.0 (open_of bs fs) ne) ∙ none) t (omega arith)))
  where
    not_nil : (x : ℕ) (xs : List ℕ) → x ∷ xs ≡ [] → ⊥
    not_nil x xs e = absurd (cc)

none_open : (bs fs : List (ℕ × ℕ)) → ((t : ℕ) → 0 < times_first t bs → 0 < times_first t fs) → open_of bs fs ≡ []
none_open [] fs h = refl
none_open (x ∷ bs) fs h = let one = hit_same x.0 x.0 refl in let f = h x.0 (omega arith) in
    cond_no (times_first x.0 fs) x.0 (open_of bs fs) (λ z. absurd (omega arith)) ∙ none_open bs fs (λ t pos. h t (let z : 0 < times_first t bs = pos in omega arith))

pub open_joined : (vb vf ub uf : List (ℕ × ℕ)) → open_of vb vf ≡ [] → open_of ub uf ≡ [] → open_of (vb ++ ub) (vf ++ uf) ≡ []
open_joined vb vf ub uf v u = none_open (vb ++ ub) (vf ++ uf) (λ t pos. let a = times_first-append t vb ub in let b = times_first-append t vf uf in
    dite (ℕ_discrete (times_first t vb) 0) (λ z. let c = open_none ub uf u t (omega arith) in omega arith) (λ n. let c = open_none vb vf v t (omega arith) in omega arith))

-- the state of a join
pub joined_is : (h : Home) (v u w : View) → w ≡ joined v u → open_of v.begins v.finishes ≡ [] → open_of u.begins u.finishes ≡ [] → state_of_view h w ≡ joined_state (state_of_view h v) (state_of_view h u)
joined_is h v u w e a b = ap (state_of_view h) e ∙ (λ i. record (state_of_view h (joined v u)) { held = held_same i; spans = map-append span_of_run v.spans u.spans i })
  where
    held_same : open_of (v.begins ++ u.begins) (v.finishes ++ u.finishes) ≡ open_of v.begins v.finishes ++ open_of u.begins u.finishes
    held_same = open_joined v.begins v.finishes u.begins u.finishes a b ∙ (λ i. sym a i ++ sym b i)

-- the state of a finish
pub ended_is : (h : Home) (t : ℕ) (v w : View) (made : List ℕ) → Ends t v w made → ((y : ℕ) → 0 < times y made → is_own h.plan y ≡ true) → Ended t (state_of_view h v) (state_of_view h w) made
ended_is h t v w made e own = record {
  begin = e.begin;
  finish = e.stamp;
  same = ap (state_of_view h) e.same ∙ (λ i. record (state_of_view h v) { duties = w.duties; held = open_finished v.begins v.finishes t e.stamp i; spans = span_of_run (t, v.number, e.begin, e.stamp) ∷ map span_of_run v.spans });
  duties = e.duties;
  made_own = own;
}

-- the positions of spans
pub positions_told : (xs : List declared.Span) → map (λ s. s.t) xs ≡ map (λ s. s.position) (map span_of xs)
positions_told [] = refl
positions_told (x ∷ xs) = (λ i. x.t ∷ positions_told xs i)
