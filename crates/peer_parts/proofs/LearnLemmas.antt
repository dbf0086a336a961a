-- One position learnt.
use Rattle.std.specs.Prelude.{ℕ, ◌+◌, ◌<◌, ◌≤◌, ◌≡◌, Bool, true, false, not, ◌&&◌, cond, List, [], ◌∷◌, length, get_or, set, take, Option, Some, None, is_some, suc, zero, refl}
use Rattle.std.specs.Option.{option_or}
use Rattle.std.proofs.Common.{sym, ◌∙◌, ap, arith, ⊎_elim, inl, inr, ◌⊎◌}
use Rattle.std.proofs.lemmas.Bool.{true≢false, false≢true, and_parts, cases_eq, cases_lt}
use Rattle.std.proofs.lemmas.List.{get_or-set_same, get_or-set_other, get_or_past, length-set, take-set-le}
use Rattle.std.proofs.lemmas.List.Sums.{sum_by-cons}
use Rattle.txn_types.specs.declared.txn.Outcome.{Outcome}
use Rattle.peer_parts.specs.Found.{unknown, is_new, learned}

pub learned_long : (xs : List (Option Outcome)) (t : ℕ) (y : Option Outcome) → length (learned xs t y) ≡ length xs
learned_long xs t y = one (is_new xs t y)
  where
    one : (b : Bool) → length (cond b (set xs t y) xs) ≡ length xs
    one true = length-set xs t y
    one false = refl

-- what is known then was known, or was found at t
pub learned_either : (xs : List (Option Outcome)) (t : ℕ) (y : Option Outcome) → t < length xs → (u : ℕ) (o : Outcome) → get_or (learned xs t y) u None ≡ Some o → (get_or xs u None ≡ Some o) ⊎ ((u ≡ t) × (y ≡ Some o))
learned_either xs t y l u o h = one (is_new xs t y) h
  where
    one : (b : Bool) → get_or (cond b (set xs t y) xs) u None ≡ Some o → (get_or xs u None ≡ Some o) ⊎ ((u ≡ t) × (y ≡ Some o))
    one false k = inl k
    one true k = ⊎_elim (λ e. inr (e, sym (get_or-set_same xs t y None l) ∙ (ap (λ i. get_or (set xs t y) i None) (sym e) ∙ k))) (λ ne. inl (sym (get_or-set_other xs t u y None ne) ∙ k)) (cases_eq u t)

-- what was known is known
pub learned_keeps : (xs : List (Option Outcome)) (t : ℕ) (y : Option Outcome) → t < length xs → (u : ℕ) (o : Outcome) → get_or xs u None ≡ Some o → get_or (learned xs t y) u None ≡ Some o
learned_keeps xs t y l u o h = one (is_new xs t y) refl
  where
    one : (b : Bool) → is_new xs t y ≡ b → get_or (cond b (set xs t y) xs) u None ≡ Some o
    one false q = h
    one true q = ⊎_elim (λ e. absurd (true≢false (sym (and_parts (not (is_some (get_or xs t None))) (is_some y) q).0 ∙ ap (λ x. not (is_some x)) (ap (λ i. get_or xs i None) (sym e) ∙ h)))) (λ ne. get_or-set_other xs t u y None ne ∙ h) (cases_eq u t)

-- t is known then, where there was an outcome for it
pub learned_here : (xs : List (Option Outcome)) (t : ℕ) (y : Option Outcome) (o : Outcome) → t < length xs → y ≡ Some o → ((p : Outcome) → get_or xs t None ≡ Some p → p ≡ o) → get_or (learned xs t y) t None ≡ Some o
learned_here xs t y o l e same = one (get_or xs t None) refl
  where
    one : (x : Option Outcome) → get_or xs t None ≡ x → get_or (learned xs t y) t None ≡ Some o
    one (Some p) q = learned_keeps xs t y l t o (q ∙ ap Some (same p q))
    one None q = rw q (rw e (get_or-set_same xs t (Some o) None l))

-- fronts up to t stay
pub learned_front : (xs : List (Option Outcome)) (t : ℕ) (y : Option Outcome) (u : ℕ) → u ≤ t → take u (learned xs t y) ≡ take u xs
learned_front xs t y u l = one (is_new xs t y)
  where
    one : (b : Bool) → take u (cond b (set xs t y) xs) ≡ take u xs
    one true = take-set-le u xs t y l
    one false = refl

fewer : (xs : List (Option Outcome)) (t : ℕ) (y : Option Outcome) → t < length xs → get_or xs t None ≡ None → is_some y ≡ true → suc (unknown (set xs t y)) ≡ unknown xs
fewer [] t y l e h = absurd (omega arith)
fewer (x ∷ xs) zero y l e h = omega (arith, sum_by-cons (λ (z : Option Outcome). cond (not (is_some z)) 1 0) x xs, sum_by-cons (λ (z : Option Outcome). cond (not (is_some z)) 1 0) y xs, ap {B = ℕ} (λ (z : Option Outcome). cond (not (is_some z)) 1 0) e, ap {B = ℕ} (λ b. cond (not b) 1 0) h)
fewer (x ∷ xs) (suc t) y l e h = omega (arith, sum_by-cons (λ (z : Option Outcome). cond (not (is_some z)) 1 0) x xs, sum_by-cons (λ (z : Option Outcome). cond (not (is_some z)) 1 0) x (set xs t y), fewer xs t y (omega arith) e h)

pub learned_fewer : (xs : List (Option Outcome)) (t : ℕ) (y : Option Outcome) → t < length xs → is_new xs t y ≡ true → suc (unknown (learned xs t y)) ≡ unknown xs
learned_fewer xs t y l h =
    let p = and_parts (not (is_some (get_or xs t None))) (is_some y) h in
    rw h (fewer xs t y l (empty (get_or xs t None) p.0) p.1)
  where
    empty : (x : Option Outcome) → not (is_some x) ≡ true → x ≡ None
    empty None i = refl
    empty (Some q) i = absurd (false≢true i)

pub learned_same : (xs : List (Option Outcome)) (t : ℕ) (y : Option Outcome) → is_new xs t y ≡ false → learned xs t y ≡ xs
learned_same xs t y h = rw h refl

pub learned_few : (xs : List (Option Outcome)) (t : ℕ) (y : Option Outcome) → t < length xs → unknown (learned xs t y) ≤ unknown xs
learned_few xs t y l = one (is_new xs t y) refl
  where
    one : (b : Bool) → is_new xs t y ≡ b → unknown (learned xs t y) ≤ unknown xs
    one true q = omega (arith, learned_fewer xs t y l q)
    one false q = omega (arith, ap unknown (learned_same xs t y q))

-- what stands at t then
pub learned_at : (xs : List (Option Outcome)) (t : ℕ) (y : Option Outcome) → t < length xs → get_or (learned xs t y) t None ≡ option_or (get_or xs t None) y
learned_at xs t y l = one (get_or xs t None) refl y
  where
    one : (x : Option Outcome) → get_or xs t None ≡ x → (z : Option Outcome) → get_or (learned xs t z) t None ≡ option_or x z
    one (Some p) e z = ap (λ (k : Option Outcome). get_or (cond (not (is_some k) && is_some z) (set xs t z) xs) t None) e ∙ e
    one None e (Some o) = ap (λ (k : Option Outcome). get_or (cond (not (is_some k) && true) (set xs t (Some o)) xs) t None) e ∙ get_or-set_same xs t (Some o) None l
    one None e None = ap (λ (k : Option Outcome). get_or (cond (not (is_some k) && false) (set xs t None) xs) t None) e ∙ e

-- and elsewhere
pub learned_other : (xs : List (Option Outcome)) (t : ℕ) (y : Option Outcome) (u : ℕ) → ((u ≡ t) → ⊥) → get_or (learned xs t y) u None ≡ get_or xs u None
learned_other xs t y u ne = one (is_new xs t y)
  where
    one : (b : Bool) → get_or (cond b (set xs t y) xs) u None ≡ get_or xs u None
    one true = get_or-set_other xs t u y None ne
    one false = refl

-- WHAT RAN IS TAKEN OVER, PLACE BY PLACE

-- it is at the places below t
pub record Merged (old ran xs : List (Option Outcome)) (t : ℕ) : Type 0 where
  pub long : length xs ≡ length old
  pub done : (u : ℕ) → u < t → get_or xs u None ≡ option_or (get_or old u None) (get_or ran u None)
  pub rest : (u : ℕ) → t ≤ u → get_or xs u None ≡ get_or old u None

pub merged_none : (old ran : List (Option Outcome)) → Merged old ran old 0
merged_none old ran = record { long = refl; done = λ u l. absurd (omega arith); rest = λ u l. refl }

pub merged_more : (old ran xs ys : List (Option Outcome)) (t : ℕ) (y : Option Outcome) → t < length xs → y ≡ get_or ran t None → ys ≡ learned xs t y → Merged old ran xs t → Merged old ran ys (t + 1)
merged_more old ran xs ys t y l e new m = record {
  long = ap length new ∙ (learned_long xs t y ∙ m.long);
  done = λ u below. place u ∙ ⊎_elim (λ q. here u q) (λ ne. learned_other xs t y u ne ∙ m.done u (lower u below ne)) (cases_eq u t);
  rest = λ u above. place u ∙ (learned_other xs t y u (λ q. absurd (omega (arith, q, above))) ∙ m.rest u (omega arith));
}
  where
    place : (u : ℕ) → get_or ys u None ≡ get_or (learned xs t y) u None
    place u = ap (λ (zs : List (Option Outcome)). get_or zs u None) new

    lower : (u : ℕ) → u < t + 1 → ((u ≡ t) → ⊥) → u < t
    lower u below ne = ⊎_elim (λ c. c) (λ c. absurd (ne (omega arith))) (cases_lt u t)

    here : (u : ℕ) → u ≡ t → get_or (learned xs t y) u None ≡ option_or (get_or old u None) (get_or ran u None)
    here u q =
        ap (λ i. get_or (learned xs t y) i None) q
        ∙ (learned_at xs t y l ∙ (ap (λ k. option_or k y) (m.rest t (omega arith)) ∙ (ap (option_or (get_or old t None)) e ∙ ap (λ i. option_or (get_or old i None) (get_or ran i None)) (sym q))))

pub merged_all : (old ran xs : List (Option Outcome)) (n : ℕ) → Merged old ran xs n → length ran ≡ n → length ran ≡ length old → (t : ℕ) → get_or xs t None ≡ option_or (get_or old t None) (get_or ran t None)
merged_all old ran xs n m a b t = ⊎_elim (m.done t) (λ above.
    let x : get_or old t None ≡ None = get_or_past old t None (omega (arith, a, b, above)) in
    let y : get_or ran t None ≡ None = get_or_past ran t None (omega (arith, a, above)) in
    m.rest t above ∙ (x ∙ sym (ap (λ k. option_or k (get_or ran t None)) x ∙ y))) (cases_lt t n)
