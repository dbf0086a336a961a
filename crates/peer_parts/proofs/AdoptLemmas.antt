-- What others' votes offer is taken over.
use Rattle.std.specs.Prelude.{ℕ, ◌+◌, ◌<◌, ◌≡◌, Bool, true, false, not, ◌&&◌, is_some, cond, List, length, get_or, set, take, Option, Some, None, refl}
use Rattle.std.proofs.Common.{sym, ◌∙◌, ap, subst, arith, ⊎_elim}
use Rattle.std.proofs.lemmas.Bool.{not-true, cases_eq, cases_lt}
use Rattle.std.proofs.lemmas.Option.{none-some, same_Some}
use Rattle.txn_types.specs.declared.txn.Outcome.{Outcome}
use Rattle.known_defs.specs.Known.{txn_at, knows_all}
use Rattle.board_defs.specs.Closure.{Plan, is_own, run_of, IsKnownClosed}
use Rattle.trace_laws.proofs.Known.{one_more_law}
use Rattle.peer_parts.specs.Found.{given_by, found_by, IsSound, HasGiven, is_new, learned, offered}
use Rattle.peer_parts.proofs.FoundLemmas.{sound_given}
use Rattle.peer_parts.proofs.LearnLemmas.{learned_either, learned_keeps, learned_here, learned_front, learned_other}

abbrev pub is_other : Plan → ℕ → Bool
is_other plan t = not (is_own plan t)

pub offered_given : (plan : Plan) (agreed xs : List (Option Outcome)) (t : ℕ) (o : Outcome) → offered plan agreed t xs ≡ Some o → (given_by plan (get_or agreed t None) t (take t xs) ≡ Some o) × (get_or agreed t None ≡ Some o)
offered_given plan agreed xs t o h = one (is_own plan t) refl h
  where
    one : (b : Bool) → is_own plan t ≡ b → cond b None (given_by plan (get_or agreed t None) t (take t xs)) ≡ Some o → (given_by plan (get_or agreed t None) t (take t xs) ≡ Some o) × (get_or agreed t None ≡ Some o)
    one true e k = absurd (none-some o k)
    one false e k = (k, two (knows_all plan.table.kind (txn_at plan.txns t) plan.txns (take t xs)) (rw e at k))
      where
        two : (b : Bool) → cond b (get_or agreed t None) None ≡ Some o → get_or agreed t None ≡ Some o
        two true q = q
        two false q = absurd (none-some o q)

pub adopt_sound : (plan : Plan) (agreed xs : List (Option Outcome)) (t : ℕ) → length xs ≡ length plan.txns → t < length plan.txns → IsSound plan agreed xs → IsSound plan agreed (learned xs t (offered plan agreed t xs))
adopt_sound plan agreed xs t n l s u o h =
    ⊎_elim (λ old. s u o old) (λ p. ap (λ i. get_or (found_by plan agreed (length plan.txns)) i None) p.0 ∙ sound_given plan agreed xs t o n s l (offered_given plan agreed xs t o p.1).0)
    (learned_either xs t (offered plan agreed t xs) (omega (arith, n, l)) u o h)

pub adopt_closed : (plan : Plan) (agreed xs : List (Option Outcome)) (t : ℕ) → length xs ≡ length plan.txns → t < length plan.txns → IsSound plan agreed xs → HasGiven (is_other plan) plan agreed xs t → HasGiven (is_other plan) plan agreed (learned xs t (offered plan agreed t xs)) (t + 1)
adopt_closed plan agreed xs t n l s c u o lt other h = ⊎_elim (λ below. learned_keeps xs t y lx u o (c u o below other given)) (λ past. here (let k : u ≡ t = omega arith in k)) (cases_lt u t)
  where
    y : Option Outcome
    y = offered plan agreed t xs

    lx : t < length xs
    lx = omega (arith, n, l)

    given : given_by plan (get_or agreed u None) u (take u xs) ≡ Some o
    given = ap (given_by plan (get_or agreed u None) u) (sym (learned_front xs t y u (omega arith))) ∙ h

    here : u ≡ t → get_or (learned xs t y) u None ≡ Some o
    here e =
        let g : given_by plan (get_or agreed t None) t (take t xs) ≡ Some o = subst (λ i. given_by plan (get_or agreed i None) i (take i xs) ≡ Some o) e given in
        let apart : is_own plan t ≡ false = not-true (is_own plan t) (subst (λ i. not (is_own plan i) ≡ true) e other) in
        let f = sound_given plan agreed xs t o n s l g in
        ap (λ i. get_or (learned xs t y) i None) e ∙ learned_here xs t y o lx (ap (λ (b : Bool). cond b None (given_by plan (get_or agreed t None) t (take t xs))) apart ∙ g) (λ p q. same_Some p o (sym (s t p q) ∙ f))

-- what is given has its predecessors known
pub given_knows : (plan : Plan) (a : Option Outcome) (t : ℕ) (o : Outcome) (earlier : List (Option Outcome)) → given_by plan a t earlier ≡ Some o → knows_all plan.table.kind (txn_at plan.txns t) plan.txns earlier ≡ true
given_knows plan a t o earlier h = one (knows_all plan.table.kind (txn_at plan.txns t) plan.txns earlier) h
  where
    one : (b : Bool) → cond b (cond (is_own plan t) (Some (run_of plan t earlier)) a) None ≡ Some o → b ≡ true
    one true k = refl
    one false k = absurd (none-some o k)

-- what is known stays closed
pub adopt_known : (plan : Plan) (agreed xs : List (Option Outcome)) (t : ℕ) → t < length xs → IsKnownClosed plan.table.kind plan.txns xs → IsKnownClosed plan.table.kind plan.txns (learned xs t (offered plan agreed t xs))
adopt_known plan agreed xs t l c = one (offered plan agreed t xs) refl
  where
    one : (y : Option Outcome) → offered plan agreed t xs ≡ y → IsKnownClosed plan.table.kind plan.txns (cond (is_new xs t y) (set xs t y) xs)
    one None e = subst (IsKnownClosed plan.table.kind plan.txns) (none_same xs t) c
      where
        none_same : (zs : List (Option Outcome)) (u : ℕ) → zs ≡ learned zs u None
        none_same zs u = two (get_or zs u None)
          where
            two : (x : Option Outcome) → zs ≡ cond (not (is_some x) && false) (set zs u None) zs
            two None = refl
            two (Some p) = refl
    one (Some o) e = three (is_new xs t (Some o))
      where
        three : (n : Bool) → IsKnownClosed plan.table.kind plan.txns (cond n (set xs t (Some o)) xs)
        three false = c
        three true = one_more_law plan.table.kind plan.txns xs t o c l (given_knows plan (get_or agreed t None) t o (take t xs) (offered_given plan agreed xs t o e).0)

-- this peer's positions stay as they were
pub adopt_own : (plan : Plan) (agreed xs : List (Option Outcome)) (t u : ℕ) → is_own plan u ≡ true → get_or (learned xs t (offered plan agreed t xs)) u None ≡ get_or xs u None
adopt_own plan agreed xs t u own = ⊎_elim (λ e. here (ap (is_own plan) (sym e) ∙ own)) (λ ne. learned_other xs t (offered plan agreed t xs) u ne) (cases_eq u t)
  where
    here : is_own plan t ≡ true → get_or (learned xs t (offered plan agreed t xs)) u None ≡ get_or xs u None
    here o = ap (λ (b : Bool). get_or (learned xs t (cond b None (given_by plan (get_or agreed t None) t (take t xs)))) u None) o ∙ two (get_or xs t None)
      where
        two : (x : Option Outcome) → get_or (cond (not (is_some x) && false) (set xs t None) xs) u None ≡ get_or xs u None
        two None = refl
        two (Some p) = refl
