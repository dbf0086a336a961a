-- The rounds that runs of plans give.
use Rattle.std.specs.Prelude.{ℕ, zero, suc, ◌≡◌, ◌<◌, ◌≤◌, Bool, true, false, not, ◌||◌, cond, List, [], ◌∷◌, length, get_or, take, refl, Option, Some, None, is_some}
use Rattle.std.specs.List.{AllPairs}
use Rattle.std.proofs.Common.{sym, ◌∙◌, ap, subst, inl, arith, ⊎_elim}
use Rattle.std.proofs.lemmas.Bool.{false≢true, and_parts, cases_lt}
use Rattle.std.proofs.lemmas.Option.{none-some}
use Rattle.std.proofs.lemmas.List.{length_push, get_or_append_left, get_or_push, get_or-take, length-take-le}
use Rattle.txn_types.specs.declared.txn.Outcome.{Outcome}
use Rattle.txn_types.specs.declared.txn.Kind.{Kind}
use Rattle.txn_types.specs.declared.txn.Txn.{Txn}
use Rattle.oxii_defs.specs.Dependency.{depends}
use Rattle.known_defs.specs.Known.{txn_at, knows_all}
use Rattle.board_defs.specs.Closure.{Plan, is_own, known_at, can_run, run_of, comes_to, closure_upto, closure, unless_known, run_outcome, with_position, ran_upto, ran_positions}
use Rattle.board_defs.specs.Trace.{IsLawfulTrace}
use Rattle.trace_laws.specs.Laws.{Round, IsLater, NextRounds, OneMoreRound, PlainCloses}
use Rattle.trace_laws.proofs.Entries.{has_place}
use Rattle.trace_laws.proofs.Members.{Has, has_of, has_cases, has_left, has_right, Up, of_up, up_push, all_of}
use Rattle.trace_laws.proofs.Join.{joined_law}
use Rattle.trace_laws.proofs.Plain.{plain_law}

pub length_closure : (plan : Plan) (n : ℕ) → length (closure_upto plan n) ≡ n
length_closure plan zero = refl
length_closure plan (suc n) = omega (arith, length_push (closure_upto plan n) (comes_to plan n (known_at plan n) (closure_upto plan n)), length_closure plan n)

-- what a place comes to doesn't change with more places
front_at : (plan : Plan) (n t : ℕ) → t < n → get_or (closure_upto plan (suc n)) t None ≡ get_or (closure_upto plan n) t None
front_at plan n t h = get_or_append_left (closure_upto plan n) (comes_to plan n (known_at plan n) (closure_upto plan n) ∷ []) None t (omega (arith, length_closure plan n, h))

pub closure_at : (plan : Plan) (n t : ℕ) → t < n → get_or (closure_upto plan n) t None ≡ comes_to plan t (known_at plan t) (closure_upto plan t)
closure_at plan zero t h = absurd (omega arith)
closure_at plan (suc n) t h = ⊎_elim (λ e. front_at plan n t e ∙ closure_at plan n t e) (λ e. last e) (cases_lt t n)
  where
    last : n ≤ t → get_or (closure_upto plan (suc n)) t None ≡ comes_to plan t (known_at plan t) (closure_upto plan t)
    last e = let k : n ≡ t = omega arith in get_or_push (closure_upto plan n) (comes_to plan n (known_at plan n) (closure_upto plan n)) None t (length_closure plan n ∙ k) ∙ ap (λ j. comes_to plan j (known_at plan j) (closure_upto plan j)) k

-- what a run gives a position, by what the positions before it come to
pub own_is : (plan : Plan) (t : ℕ) → t < length plan.txns → run_outcome plan t ≡ unless_known (known_at plan t) (comes_to plan t (known_at plan t) (closure_upto plan t))
own_is plan t h = ap (unless_known (known_at plan t)) (closure_at plan (length plan.txns) t h)

-- a position that ran
pub record HasRun (plan : Plan) (t : ℕ) : Type 0 where
  pub place : t < length plan.txns
  pub outcome : Outcome
  pub is : run_outcome plan t ≡ Some outcome

pub ran_has : (plan : Plan) (n t : ℕ) → Has t (ran_upto plan n) → (t < n) × ((o : Outcome) × (run_outcome plan t ≡ Some o))
ran_has plan zero t h = absurd h
ran_has plan (suc n) t h = one (run_outcome plan n) refl h (ran_has plan n t)
  where
    one : (x : Option Outcome) → run_outcome plan n ≡ x → Has t (with_position (ran_upto plan n) n x) → (Has t (ran_upto plan n) → (t < n) × ((o : Outcome) × (run_outcome plan t ≡ Some o))) → (t < suc n) × ((o : Outcome) × (run_outcome plan t ≡ Some o))
    one None e i more = let r = more i in let l = r.0 in (omega arith, r.1)
    one (Some o) e i more = ⊎_elim (λ j. let r = more j in let l = r.0 in (omega arith, r.1)) (λ j. ⊎_elim (λ q. (omega arith, (o, ap (run_outcome plan) q ∙ e))) (λ v. absurd v) j) (has_cases (ran_upto plan n) (n ∷ []) t i)

pub has_ran : (plan : Plan) (n t : ℕ) (o : Outcome) → t < n → run_outcome plan t ≡ Some o → Has t (ran_upto plan n)
has_ran plan zero t o l h = absurd (omega arith)
has_ran plan (suc n) t o l h = ⊎_elim (λ c. early (run_outcome plan n) (has_ran plan n t o c h)) (λ c. let e : t ≡ n = omega arith in here (run_outcome plan n) (sym (ap (run_outcome plan) e) ∙ h) e) (cases_lt t n)
  where
    early : (x : Option Outcome) → Has t (ran_upto plan n) → Has t (with_position (ran_upto plan n) n x)
    early None i = i
    early (Some p) i = has_left (ran_upto plan n) (n ∷ []) t i

    here : (x : Option Outcome) → x ≡ Some o → t ≡ n → Has t (with_position (ran_upto plan n) n x)
    here None i e = absurd (none-some o i)
    here (Some p) i e = has_right (ran_upto plan n) (n ∷ []) t (inl e)

ran_up : (plan : Plan) (n : ℕ) → Up (ran_upto plan n)
ran_up plan zero = tt
ran_up plan (suc n) = one (run_outcome plan n) (ran_up plan n)
  where
    one : (x : Option Outcome) → Up (ran_upto plan n) → Up (with_position (ran_upto plan n) n x)
    one None u = u
    one (Some o) u = up_push (ran_upto plan n) n u (λ y h. (ran_has plan n y h).0)

-- what is known doesn't run
known_rests : (plan : Plan) (t : ℕ) (o : Outcome) → known_at plan t ≡ Some o → Has t (ran_positions plan) → ⊥
known_rests plan t o k h = let r = ran_has plan (length plan.txns) t h in none-some r.1.0 (sym (ap (λ x. unless_known x (get_or (closure plan) t None)) k) ∙ r.1.1)

-- what ran is what the closure has
ran_comes : (plan : Plan) (t : ℕ) (o : Outcome) → run_outcome plan t ≡ Some o → (known_at plan t ≡ None) × (get_or (closure plan) t None ≡ Some o)
ran_comes plan t o h = one (known_at plan t) refl h
  where
    one : (x : Option Outcome) → known_at plan t ≡ x → unless_known x (get_or (closure plan) t None) ≡ Some o → (known_at plan t ≡ None) × (get_or (closure plan) t None ≡ Some o)
    one None e i = (e, i)
    one (Some p) e i = absurd (none-some o i)

-- of all that is known, a predecessor has an outcome
pub knows_at : (kind : Kind) (t : Txn) (ts : List Txn) (xs : List (Option Outcome)) (u : ℕ) → u < length ts → u < length xs → knows_all kind t ts xs ≡ true → depends kind (txn_at ts u) t ≡ true → (o : Outcome) × (get_or xs u None ≡ Some o)
knows_at kind t [] xs u l m k d = absurd (omega arith)
knows_at kind t (a ∷ ts) [] u l m k d = absurd (omega arith)
knows_at kind t (a ∷ ts) (Some o ∷ xs) zero l m k d = (o, refl)
knows_at kind t (a ∷ ts) (None ∷ xs) zero l m k d =
    let p = (and_parts (not (depends kind a t) || false) (knows_all kind t ts xs) k).0 in absurd (false≢true (sym (ap (λ b. not b || false) d) ∙ p))
knows_at kind t (a ∷ ts) (x ∷ xs) (suc u) l m k d =
    knows_at kind t ts xs u (omega arith) (omega arith) (and_parts (not (depends kind a t) || is_some x) (knows_all kind t ts xs) k).1 d

-- a position that is to be told apart by what it depends on
either_depends : (kind : Kind) (txns : List Txn) (u t : ℕ) → (depends kind (txn_at txns u) (txn_at txns t) ≡ true → ⊥) → depends kind (txn_at txns u) (txn_at txns t) ≡ false
either_depends kind txns u t f = one (depends kind (txn_at txns u) (txn_at txns t)) f
  where
    one : (b : Bool) → (b ≡ true → ⊥) → b ≡ false
    one true g = absurd (g refl)
    one false g = refl

-- what an own position that ran depends on has come to something
pub ran_knows : (plan : Plan) (t u : ℕ) (o : Outcome) → t < length plan.txns → run_outcome plan t ≡ Some o → u < t → depends plan.table.kind (txn_at plan.txns u) (txn_at plan.txns t) ≡ true → (p : Outcome) × (get_or (closure plan) u None ≡ Some p)
ran_knows plan t u o place h l d =
    let r = ran_comes plan t o h in
    let c = sym (closure_at plan (length plan.txns) t place) ∙ r.1 in
    let knows = ran (known_at plan t) r.0 c in
    let q = knows_at plan.table.kind (txn_at plan.txns t) plan.txns (closure_upto plan t) u (omega arith) (omega (arith, length_closure plan t, l)) knows d in
    (q.0, closure_at plan (length plan.txns) u (omega arith) ∙ sym (closure_at plan t u l) ∙ q.1)
  where
    ran : (x : Option Outcome) → x ≡ None → comes_to plan t x (closure_upto plan t) ≡ Some o → knows_all plan.table.kind (txn_at plan.txns t) plan.txns (closure_upto plan t) ≡ true
    ran (Some p) e i = absurd (none-some p (sym e))
    ran None e i = (and_parts (is_own plan t) (knows_all plan.table.kind (txn_at plan.txns t) plan.txns (closure_upto plan t)) (two (can_run plan t (closure_upto plan t)) i)).1
      where
        two : (b : Bool) → cond b (Some (run_of plan t (closure_upto plan t))) None ≡ Some o → b ≡ true
        two true j = refl
        two false j = absurd (none-some o j)

pub next_law : NextRounds
next_law earlier later xs ys next = record {
  apart = λ t i j. let r = ran_has earlier (length earlier.txns) t (has_of (ran_positions earlier) t i) in
      known_rests later t r.1.0 (next.known t r.1.0 (ran_comes earlier t r.1.0 r.1.1).1) (has_of (ran_positions later) t j);
  not_needed = λ t u i j l. either_depends earlier.table.kind earlier.txns u t (λ d.
      let r = ran_has earlier (length earlier.txns) t (has_of (ran_positions earlier) t i) in
      let q = ran_knows earlier t u r.1.0 r.0 r.1.1 l d in
      known_rests later u q.0 (next.known u q.0 q.1) (has_of (ran_positions later) u j));
}

pub more_law : OneMoreRound
more_law plan workers before all spans round lawful known so_far its union =
    let first : Round = record { positions = before; spans = spans } in
    let second : Round = record { positions = ran_positions plan; spans = round } in
    joined_law plan.table.kind plan.txns workers (first ∷ second ∷ []) all
    (all_of (λ r. IsLawfulTrace plan.table.kind plan.txns workers r.positions r.spans) (first ∷ second ∷ []) (λ r h. ⊎_elim
    (λ e. subst (λ q. IsLawfulTrace plan.table.kind plan.txns workers q.positions q.spans) (sym e) so_far)
    (λ i. ⊎_elim (λ e. subst (λ q. IsLawfulTrace plan.table.kind plan.txns workers q.positions q.spans) (sym e) its) (λ n. absurd n) i) h))
    (pairs_two (IsLater plan.table.kind plan.txns) first second (record {
      apart = λ t i j. let k = known t i in known_rests plan t k.0 k.1 (has_of (ran_positions plan) t j);
      not_needed = λ t u i j l. either_depends plan.table.kind plan.txns u t (λ d.
          let k = known t i in let e = lawful.known_long in
          let place = has_place plan.known t k.0 k.1 in
          let q = knows_at plan.table.kind (txn_at plan.txns t) plan.txns (take t plan.known) u (omega arith) (front plan t u place l) (lawful.known_closed t k.0 k.1) d in
          known_rests plan u q.0 (sym (get_or-take t plan.known u None l) ∙ q.1) (has_of (ran_positions plan) u j));
    }))
    union
  where
    pairs_two : {A : Type 0} (R : A → A → Type 0) (x y : A) → R x y → AllPairs R (x ∷ y ∷ [])
    pairs_two R x y r zero zero d l m = absurd (omega arith)
    pairs_two R x y r zero (suc zero) d l m = r
    pairs_two R x y r zero (suc (suc j)) d l m = absurd (omega arith)
    pairs_two R x y r (suc i) zero d l m = absurd (omega arith)
    pairs_two R x y r (suc i) (suc zero) d l m = absurd (omega arith)
    pairs_two R x y r (suc i) (suc (suc j)) d l m = absurd (omega arith)

    front : (plan : Plan) (t u : ℕ) → t < length plan.known → u < t → u < length (take t plan.known)
    front plan t u c l = omega (arith, length-take-le t plan.known (omega arith), l)

pub closes_law : PlainCloses
closes_law plan workers w = record {
  outcomes_are = refl;
  trace = plain_law plan.table.kind plan.txns workers (ran_positions plan) w (of_up (ran_positions plan) (ran_up plan (length plan.txns)));
}
