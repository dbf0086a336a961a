-- What is known stays closed under predecessors.
use Rattle.std.specs.Prelude.{ℕ, suc, ◌≡◌, ◌<◌, ◌≤◌, Bool, true, false, not, ◌||◌, List, [], ◌∷◌, length, get_or, set, take, refl, ◌⊎◌, Option, Some, None, is_some}
use Rattle.std.proofs.Common.{sym, ◌∙◌, ap, subst, inl, inr, arith, ⊎_elim}
use Rattle.std.proofs.lemmas.Bool.{and_from, cases_lt}
use Rattle.std.proofs.lemmas.List.{length-take-le, get_or-take, get_or-set_same, get_or-set_other, length-set, take-set-le}
use Rattle.txn_types.specs.declared.txn.Outcome.{Outcome}
use Rattle.txn_types.specs.declared.txn.Kind.{Kind}
use Rattle.txn_types.specs.declared.txn.Txn.{Txn}
use Rattle.oxii_defs.specs.Dependency.{depends}
use Rattle.known_defs.specs.Known.{txn_at, knows_all}
use Rattle.board_defs.specs.Closure.{Plan, known_at, comes_to, closure_upto, closure, unless_known}
use Rattle.trace_laws.specs.Laws.{ClosureIsClosed, OneMoreKnown}
use Rattle.trace_laws.proofs.Entries.{has_place}
use Rattle.trace_laws.proofs.Plans.{length_closure, closure_at, knows_at, ran_knows}

-- all is known, where each predecessor has an outcome
pub knows_from : (kind : Kind) (t : Txn) (ts : List Txn) (xs : List (Option Outcome)) → ((u : ℕ) → u < length ts → u < length xs → depends kind (txn_at ts u) t ≡ true → (o : Outcome) × (get_or xs u None ≡ Some o)) → knows_all kind t ts xs ≡ true
knows_from kind t [] xs f = refl
knows_from kind t (a ∷ ts) [] f = refl
knows_from kind t (a ∷ ts) (x ∷ xs) f = and_from (not (depends kind a t) || is_some x) (knows_all kind t ts xs)
    (one (depends kind a t) (f 0 (omega arith) (omega arith)))
    (knows_from kind t ts xs (λ u l m. f (suc u) (omega arith) (omega arith)))
  where
    one : (b : Bool) → (b ≡ true → (o : Outcome) × (x ≡ Some o)) → (not b || is_some x) ≡ true
    one false g = refl
    one true g = ap is_some (g refl).1

-- the same of a front
pub front_from : (kind : Kind) (txns : List Txn) (known : List (Option Outcome)) (t : ℕ) → ((u : ℕ) → u < t → u < length txns → depends kind (txn_at txns u) (txn_at txns t) ≡ true → (o : Outcome) × (get_or known u None ≡ Some o)) → t ≤ length known → knows_all kind (txn_at txns t) txns (take t known) ≡ true
front_from kind txns known t f place = knows_from kind (txn_at txns t) txns (take t known) (λ u l m d.
    let n = length-take-le t known place in let k : u < t = omega arith in
    let r = f u k l d in (r.0, get_or-take t known u None k ∙ r.1))

pub front_at : (kind : Kind) (txns : List Txn) (known : List (Option Outcome)) (t u : ℕ) → knows_all kind (txn_at txns t) txns (take t known) ≡ true → t ≤ length known → u < t → u < length txns → depends kind (txn_at txns u) (txn_at txns t) ≡ true → (o : Outcome) × (get_or known u None ≡ Some o)
front_at kind txns known t u h place l m d =
    let n = length-take-le t known place in
    let r = knows_at kind (txn_at txns t) txns (take t known) u m (omega arith) h d in (r.0, sym (get_or-take t known u None l) ∙ r.1)

kept : (plan : Plan) → length plan.known ≡ length plan.txns → (t : ℕ) (o : Outcome) → known_at plan t ≡ Some o → get_or (closure plan) t None ≡ Some o
kept plan n t o h = let l = has_place plan.known t o h in
    closure_at plan (length plan.txns) t (omega arith) ∙ ap (λ x. comes_to plan t x (closure_upto plan t)) h

pub closure_law : ClosureIsClosed
closure_law plan n closed = record {
  is_whole = length_closure plan (length plan.txns);
  kept = kept plan n;
  is_closed = λ t o h. let place = has_place (closure plan) t o h in let size = length_closure plan (length plan.txns) in
      front_from plan.table.kind plan.txns (closure plan) t (λ u l m d. one (known_at plan t) t o refl (closed t) h u l m d) (omega arith);
}
  where
    one : (x : Option Outcome) (t : ℕ) (o : Outcome) → known_at plan t ≡ x → ((p : Outcome) → known_at plan t ≡ Some p → knows_all plan.table.kind (txn_at plan.txns t) plan.txns (take t plan.known) ≡ true) → get_or (closure plan) t None ≡ Some o → (u : ℕ) → u < t → u < length plan.txns → depends plan.table.kind (txn_at plan.txns u) (txn_at plan.txns t) ≡ true → (p : Outcome) × (get_or (closure plan) u None ≡ Some p)
    one (Some p) t o e c h u l m d = let place = has_place plan.known t p e in let r = front_at plan.table.kind plan.txns plan.known t u (c p e) (omega arith) l m d in (r.0, kept plan n u r.0 r.1)
    one None t o e c h u l m d = let place = has_place (closure plan) t o h in let size = length_closure plan (length plan.txns) in
        ran_knows plan t u o (omega arith) (ap (λ x. unless_known x (get_or (closure plan) t None)) e ∙ h) l d

cases_ne : (a b : ℕ) → ((a ≡ b) → ⊥) ⊎ (a ≡ b)
cases_ne a b = ⊎_elim (λ l. inl (λ e. absurd (omega arith))) (λ g. ⊎_elim (λ l. inl (λ e. absurd (omega arith))) (λ k. inr (omega arith)) (cases_lt b a)) (cases_lt a b)

pub one_more_law : OneMoreKnown
one_more_law kind txns known t o closed place h v p k = ⊎_elim
    (λ ne. let old = sym (get_or-set_other known t v (Some o) None ne) ∙ k in let l = has_place known v p old in
    front_from kind txns (set known t (Some o)) v (λ u below m d. let r = front_at kind txns known v u (closed v p old) (omega arith) below m d in more u r.0 r.1) (omega (arith, length-set known t (Some o), l)))
    (λ e. subst (λ w. knows_all kind (txn_at txns w) txns (take w (set known t (Some o))) ≡ true) (sym e) (subst (λ xs. knows_all kind (txn_at txns t) txns xs ≡ true) (sym (take-set-le t known t (Some o) (omega arith))) h))
    (cases_ne v t)
  where
    more : (u : ℕ) (q : Outcome) → get_or known u None ≡ Some q → (r : Outcome) × (get_or (set known t (Some o)) u None ≡ Some r)
    more u q i = ⊎_elim (λ ne. (q, get_or-set_other known t u (Some o) None ne ∙ i)) (λ e. (o, ap (λ w. get_or (set known t (Some o)) w None) e ∙ get_or-set_same known t (Some o) None place)) (cases_ne u t)
