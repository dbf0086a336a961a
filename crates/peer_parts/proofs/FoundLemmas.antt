-- What runs and votes give, position by position.
use Rattle.std.specs.Prelude.{ℕ, ◌<◌, ◌≤◌, ◌≡◌, Bool, true, false, cond, List, [], ◌∷◌, ◌++◌, length, get_or, take, Option, Some, None, suc, zero, refl}
use Rattle.std.specs.FinMap as map
use Rattle.std.proofs.Common.{sym, ◌∙◌, ap, subst, arith, ⊎_elim}
use Rattle.std.proofs.lemmas.Bool.{cases_lt}
use Rattle.std.proofs.lemmas.Option.{none-some}
use Rattle.std.proofs.lemmas.List.{length_push, get_or_append_left, get_or_push}
use Rattle.std.proofs.Math.Seq.{take-suc}
use Rattle.txn_types.specs.declared.txn.Outcome.{Outcome}
use Rattle.known_defs.specs.Known.{txn_at, knows_all}
use Rattle.node_defs.specs.Rules.{Rules}
use Rattle.node_defs.specs.Programs.{rules_of}
use Rattle.board_defs.specs.Closure.{Plan, is_own, run_of}
use Rattle.node_laws.proofs.Same.{Within, rules_local}
use Rattle.node_laws.proofs.Growing.{knows_still}
use Rattle.node_laws.proofs.Order.{same_outcome_through, within_push}
use Rattle.node_laws.proofs.Settle.{push_same}
use Rattle.peer_parts.specs.Found.{given_by, found_by, IsSound}

pub length_found : (plan : Plan) (agreed : List (Option Outcome)) (n : ℕ) → length (found_by plan agreed n) ≡ n
length_found plan agreed zero = refl
length_found plan agreed (suc n) = omega (arith, length_push (found_by plan agreed n) (given_by plan (get_or agreed n None) n (found_by plan agreed n)), length_found plan agreed n)

-- what is found at a place doesn't change with more places
pub found_at : (plan : Plan) (agreed : List (Option Outcome)) (n t : ℕ) → t < n → get_or (found_by plan agreed n) t None ≡ given_by plan (get_or agreed t None) t (found_by plan agreed t)
found_at plan agreed zero t h = absurd (omega arith)
found_at plan agreed (suc n) t h = ⊎_elim (λ e. inside (found_at plan agreed n t) e) (λ e. last e) (cases_lt t n)
  where
    y : Option Outcome
    y = given_by plan (get_or agreed n None) n (found_by plan agreed n)

    inside : (t < n → get_or (found_by plan agreed n) t None ≡ given_by plan (get_or agreed t None) t (found_by plan agreed t)) → t < n → get_or (found_by plan agreed n ++ y ∷ []) t None ≡ given_by plan (get_or agreed t None) t (found_by plan agreed t)
    inside more e = get_or_append_left (found_by plan agreed n) (y ∷ []) None t (omega (arith, length_found plan agreed n, e)) ∙ more e

    last : n ≤ t → get_or (found_by plan agreed n ++ y ∷ []) t None ≡ given_by plan (get_or agreed t None) t (found_by plan agreed t)
    last e = let k : n ≡ t = omega arith in get_or_push (found_by plan agreed n) y None t (length_found plan agreed n ∙ k) ∙ ap (λ j. given_by plan (get_or agreed j None) j (found_by plan agreed j)) k

-- by place, over as many places
pub within_of : (xs ys : List (Option Outcome)) → length xs ≡ length ys → ((t : ℕ) (o : Outcome) → get_or xs t None ≡ Some o → get_or ys t None ≡ Some o) → Within xs ys
within_of [] [] l h = tt
within_of [] (y ∷ ys) l h = absurd (omega (arith, l))
within_of (x ∷ xs) [] l h = absurd (omega (arith, l))
within_of (Some o ∷ xs) (y ∷ ys) l h = (h 0 o refl, within_of xs ys (omega (arith, l)) (λ t p e. h (suc t) p e))
within_of (None ∷ xs) (y ∷ ys) l h = within_of xs ys (omega (arith, l)) (λ t p e. h (suc t) p e)

-- what is given from less is given from more
pub given_more : (plan : Plan) (a : Option Outcome) (t : ℕ) (o : Outcome) (xs ys : List (Option Outcome)) → Within xs ys → given_by plan a t xs ≡ Some o → given_by plan a t ys ≡ Some o
given_more plan a t o xs ys w h = one (knows_all plan.table.kind (txn_at plan.txns t) plan.txns xs) refl h
  where
    rules : Rules
    rules = rules_of plan.table map.empty

    one : (k : Bool) → knows_all plan.table.kind (txn_at plan.txns t) plan.txns xs ≡ k → cond k (cond (is_own plan t) (Some (run_of plan t xs)) a) None ≡ Some o → given_by plan a t ys ≡ Some o
    one false e k = absurd (none-some o k)
    one true e k = rw (knows_still plan.table.kind (txn_at plan.txns t) plan.txns xs ys w e) (two (is_own plan t) k)
      where
        two : (b : Bool) → cond b (Some (run_of plan t xs)) a ≡ Some o → cond b (Some (run_of plan t ys)) a ≡ Some o
        two true q = ap Some (sym (same_outcome_through rules (rules_local plan.table map.empty) plan.base (txn_at plan.txns t) plan.txns xs ys e w)) ∙ q
        two false q = q

-- a front of what is sound lies within what is found there
pub front_within : (plan : Plan) (agreed xs : List (Option Outcome)) (t : ℕ) → length xs ≡ length plan.txns → IsSound plan agreed xs → t ≤ length plan.txns → Within (take t xs) (found_by plan agreed t)
front_within plan agreed xs t n s l = upto t l
  where
    upto : (u : ℕ) → u ≤ length plan.txns → Within (take u xs) (found_by plan agreed u)
    upto zero h = tt
    upto (suc u) h =
        let lx : u < length xs = omega (arith, n, h) in
        subst (λ (zs : List (Option Outcome)). Within zs (found_by plan agreed (suc u))) (sym (take-suc xs u None lx))
        (within_push (take u xs) (found_by plan agreed u) (get_or xs u None) _ (upto u (omega arith)) (one (get_or xs u None) refl))
      where
        one : (x : Option Outcome) → get_or xs u None ≡ x → Within (x ∷ []) (given_by plan (get_or agreed u None) u (found_by plan agreed u) ∷ [])
        one None e = tt
        one (Some o) e = (sym (found_at plan agreed (length plan.txns) u (omega arith)) ∙ s u o e, tt)

-- what is given from what is sound is found
pub sound_given : (plan : Plan) (agreed xs : List (Option Outcome)) (t : ℕ) (o : Outcome) → length xs ≡ length plan.txns → IsSound plan agreed xs → t < length plan.txns → given_by plan (get_or agreed t None) t (take t xs) ≡ Some o → get_or (found_by plan agreed (length plan.txns)) t None ≡ Some o
sound_given plan agreed xs t o n s l h = found_at plan agreed (length plan.txns) t l ∙ given_more plan (get_or agreed t None) t o (take t xs) (found_by plan agreed t) (front_within plan agreed xs t n s (omega arith)) h

-- where nothing is left, what is known is what is found
pub all_found : (plan : Plan) (agreed xs : List (Option Outcome)) → length xs ≡ length plan.txns → IsSound plan agreed xs → ((t : ℕ) (o : Outcome) → t < length plan.txns → given_by plan (get_or agreed t None) t (take t xs) ≡ Some o → get_or xs t None ≡ Some o)
    → (t : ℕ) → t ≤ length plan.txns → take t xs ≡ found_by plan agreed t
all_found plan agreed xs n s closed zero h = refl
all_found plan agreed xs n s closed (suc t) h =
    let lx : t < length xs = omega (arith, n, h) in
    take-suc xs t None lx ∙ one (all_found plan agreed xs n s closed t (omega arith)) (get_or xs t None) refl (given_by plan (get_or agreed t None) t (found_by plan agreed t)) refl
  where
    one : take t xs ≡ found_by plan agreed t → (x : Option Outcome) → get_or xs t None ≡ x → (y : Option Outcome) → given_by plan (get_or agreed t None) t (found_by plan agreed t) ≡ y → take t xs ++ get_or xs t None ∷ [] ≡ found_by plan agreed t ++ given_by plan (get_or agreed t None) t (found_by plan agreed t) ∷ []
    one b x e (Some o) f = push_same (take t xs) (found_by plan agreed t) (get_or xs t None) _ b (closed t o (omega arith) (ap (given_by plan (get_or agreed t None) t) b ∙ f) ∙ sym f)
    one b None e None f = push_same (take t xs) (found_by plan agreed t) (get_or xs t None) _ b (e ∙ sym f)
    one b (Some o) e None f = absurd (none-some o (sym f ∙ (sym (found_at plan agreed (length plan.txns) t (omega arith)) ∙ s t o e)))
