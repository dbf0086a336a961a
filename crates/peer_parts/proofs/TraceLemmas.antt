-- What has run since a beginning, and its trace.
use Rattle.std.specs.Prelude.{ℕ, zero, suc, ◌<◌, ◌≤◌, ◌≡◌, Bool, true, false, not, ◌&&◌, cond, List, [], ◌∷◌, ◌++◌, length, get_or, Option, Some, None, is_some, refl}
use Rattle.std.proofs.Common.{sym, ◌∙◌, ap, subst, arith, ⊎_elim, inl}
use Rattle.std.proofs.lemmas.Bool.{false≢true, and_parts, and_from, cases_lt}
use Rattle.std.proofs.lemmas.Option.{none-some}
use Rattle.std.proofs.lemmas.List.{length_push, append-nil}
use Rattle.txn_types.specs.declared.txn.Kind.{Kind}
use Rattle.txn_types.specs.declared.txn.Outcome.{Outcome}
use Rattle.txn_types.specs.declared.txn.Txn.{Txn}
use Rattle.known_defs.specs.Known.{txn_at, knows_all}
use Rattle.board_defs.specs.Closure.{Plan, is_own, known_at, can_run, run_of, comes_to, closure_upto, closure, unless_known, run_outcome, with_position, ran_upto, ran_positions, IsLawfulPlan}
use Rattle.board_defs.specs.Trace.{Span, IsLawfulTrace}
use Rattle.board_defs.specs.Rounds.{joined_rounds}
use Rattle.trace_laws.proofs.Members.{Has, has_of, contains_of, has_cases, has_left, has_right, Up, of_up, up_push}
use Rattle.trace_laws.proofs.Plain.{plain_law}
use Rattle.trace_laws.proofs.Plans.{ran_has, has_ran, closure_at, more_law}
use Rattle.trace_laws.proofs.Entries.{some_of}
use Rattle.trace_laws.proofs.Known.{closure_law}
use Rattle.peer_parts.specs.Found.{IsKept}
use Rattle.peer_parts.specs.Holding.{has_just}
use Rattle.peer_parts.specs.Ready.{round_plan, ran_between}
use Rattle.peer_parts.proofs.RoundLemmas.{none_is, left_own}

-- POSITIONS

just_parts : (own : List Bool) (before after : List (Option Outcome)) (t : ℕ) → has_just own before after t ≡ true → (get_or own t false ≡ true) × (is_some (get_or after t None) ≡ true) × (get_or before t None ≡ None)
just_parts own before after t h =
    let p = and_parts (get_or own t false && is_some (get_or after t None)) (not (is_some (get_or before t None))) h in
    let q = and_parts (get_or own t false) (is_some (get_or after t None)) p.0 in
    (q.0, q.1, none_is (get_or before t None) p.1)

just_from : (own : List Bool) (before after : List (Option Outcome)) (t : ℕ) (o : Outcome) → get_or own t false ≡ true → get_or after t None ≡ Some o → get_or before t None ≡ None → has_just own before after t ≡ true
just_from own before after t o a b c =
    and_from (get_or own t false && is_some (get_or after t None)) (not (is_some (get_or before t None)))
    (and_from (get_or own t false) (is_some (get_or after t None)) a (ap is_some b)) (ap (λ x. not (is_some x)) c)

between_has : (own : List Bool) (before after : List (Option Outcome)) (n t : ℕ) → Has t (ran_between own before after n) → (t < n) × (has_just own before after t ≡ true)
between_has own before after zero t h = absurd h
between_has own before after (suc n) t h = one (has_just own before after n) refl h (between_has own before after n t)
  where
    one : (b : Bool) → has_just own before after n ≡ b → Has t (cond b (ran_between own before after n ++ n ∷ []) (ran_between own before after n)) → (Has t (ran_between own before after n) → (t < n) × (has_just own before after t ≡ true)) → (t < suc n) × (has_just own before after t ≡ true)
    one false e i more = let r = more i in let l = r.0 in (omega arith, r.1)
    one true e i more = ⊎_elim (λ j. let r = more j in let l = r.0 in (omega arith, r.1)) (λ j. ⊎_elim (λ q. (omega arith, ap (has_just own before after) q ∙ e)) (λ v. absurd v) j) (has_cases (ran_between own before after n) (n ∷ []) t i)

has_between : (own : List Bool) (before after : List (Option Outcome)) (n t : ℕ) → t < n → has_just own before after t ≡ true → Has t (ran_between own before after n)
has_between own before after zero t l h = absurd (omega arith)
has_between own before after (suc n) t l h = ⊎_elim (λ c. early (has_just own before after n) (has_between own before after n t c h)) (λ c. let e : t ≡ n = omega arith in here (has_just own before after n) (sym (ap (has_just own before after) e) ∙ h) e) (cases_lt t n)
  where
    early : (b : Bool) → Has t (ran_between own before after n) → Has t (cond b (ran_between own before after n ++ n ∷ []) (ran_between own before after n))
    early false i = i
    early true i = has_left (ran_between own before after n) (n ∷ []) t i

    here : (b : Bool) → b ≡ true → t ≡ n → Has t (cond b (ran_between own before after n ++ n ∷ []) (ran_between own before after n))
    here false i e = absurd (false≢true i)
    here true i e = has_right (ran_between own before after n) (n ∷ []) t (inl e)

between_up : (own : List Bool) (before after : List (Option Outcome)) (n : ℕ) → Up (ran_between own before after n)
between_up own before after zero = tt
between_up own before after (suc n) = one (has_just own before after n) (between_up own before after n)
  where
    one : (b : Bool) → Up (ran_between own before after n) → Up (cond b (ran_between own before after n ++ n ∷ []) (ran_between own before after n))
    one false u = u
    one true u = up_push (ran_between own before after n) n u (λ y h. (between_has own before after n y h).0)

pub between_few : (own : List Bool) (before after : List (Option Outcome)) (n : ℕ) → length (ran_between own before after n) ≤ n
between_few own before after zero = omega arith
between_few own before after (suc n) = one (has_just own before after n) (between_few own before after n)
  where
    one : (b : Bool) → length (ran_between own before after n) ≤ n → length (cond b (ran_between own before after n ++ n ∷ []) (ran_between own before after n)) ≤ suc n
    one false l = omega arith
    one true l = omega (arith, length_push (ran_between own before after n) n, l)

pub ran_few : (plan : Plan) (n : ℕ) → length (ran_upto plan n) ≤ n
ran_few plan zero = omega arith
ran_few plan (suc n) = one (run_outcome plan n) (ran_few plan n)
  where
    one : (x : Option Outcome) → length (ran_upto plan n) ≤ n → length (with_position (ran_upto plan n) n x) ≤ suc n
    one None l = omega arith
    one (Some o) l = omega (arith, length_push (ran_upto plan n) n, l)

-- at the beginning nothing has
between_none : (own : List Bool) (known : List (Option Outcome)) (n : ℕ) → ran_between own known known n ≡ []
between_none own known zero = refl
between_none own known (suc n) = one (get_or own n false) (get_or known n None) (between_none own known n)
  where
    one : (b : Bool) (x : Option Outcome) → ran_between own known known n ≡ [] → cond ((b && is_some x) && not (is_some x)) (ran_between own known known n ++ n ∷ []) (ran_between own known known n) ≡ []
    one true (Some o) e = e
    one true None e = e
    one false x e = e

-- what others' votes give changes nothing of it
pub between_same : (own : List Bool) (begun xs ys : List (Option Outcome)) → ((t : ℕ) → get_or own t false ≡ true → get_or ys t None ≡ get_or xs t None) → (n : ℕ) → ran_between own begun ys n ≡ ran_between own begun xs n
between_same own begun xs ys same zero = refl
between_same own begun xs ys same (suc n) =
    ap (λ ts. cond (has_just own begun ys n) (ts ++ n ∷ []) ts) (between_same own begun xs ys same n)
    ∙ ap (λ b. cond b (ran_between own begun xs n ++ n ∷ []) (ran_between own begun xs n)) (one (get_or own n false) (same n))
  where
    one : (b : Bool) → (b ≡ true → get_or ys n None ≡ get_or xs n None) → ((b && is_some (get_or ys n None)) && not (is_some (get_or begun n None))) ≡ ((b && is_some (get_or xs n None)) && not (is_some (get_or begun n None)))
    one false f = refl
    one true f = ap (λ x. is_some x && not (is_some (get_or begun n None))) (f refl)

-- TRACES

pub no_trace : (kind : Kind) (txns : List Txn) (workers : ℕ) (own : List Bool) (known : List (Option Outcome)) (n : ℕ) → 0 < workers → IsLawfulTrace kind txns workers (ran_between own known known n) []
no_trace kind txns workers own known n w = subst (λ ts. IsLawfulTrace kind txns workers ts []) (sym (between_none own known n)) (plain_law kind txns workers [] w (of_up [] tt))

-- one round more
pub more_trace : (frame : Plan) (begun xs : List (Option Outcome)) (workers : ℕ) (spans round : List Span) → IsLawfulPlan (round_plan frame xs) → IsKept begun xs
    → IsLawfulTrace frame.table.kind frame.txns workers (ran_between frame.own begun xs (length frame.txns)) spans
    → IsLawfulTrace frame.table.kind frame.txns workers (ran_positions (round_plan frame xs)) round
    → IsLawfulTrace frame.table.kind frame.txns workers (ran_between frame.own begun (closure (round_plan frame xs)) (length frame.txns)) (joined_rounds (spans ∷ round ∷ []))
more_trace frame begun xs workers spans round lawful kept so_far its =
    more_law plan workers before all spans round lawful
    (λ t i. some_of (get_or xs t None) (just_parts frame.own begun xs t (between_has frame.own begun xs n t (has_of before t i)).1).1)
    so_far its (record {
      rising = of_up all (between_up frame.own begun after n);
      all_in = λ t i. contains_of all t (⊎_elim (λ h. old t h) (λ h. new t (subst (λ ts. Has t ts) (append-nil (ran_positions plan)) h)) (has_cases before (ran_positions plan ++ []) t (has_of (before ++ (ran_positions plan ++ [])) t i)));
      no_more = λ t i. contains_of (before ++ (ran_positions plan ++ [])) t (back t (has_of all t i));
    })
  where
    plan : Plan
    plan = round_plan frame xs

    n : ℕ
    n = length frame.txns

    after : List (Option Outcome)
    after = closure plan

    before : List ℕ
    before = ran_between frame.own begun xs n

    all : List ℕ
    all = ran_between frame.own begun after n

    stays : IsKept xs after
    stays = (closure_law plan lawful.known_long lawful.known_closed).kept

    old : (t : ℕ) → Has t before → Has t all
    old t h =
        let b = between_has frame.own begun xs n t h in
        let p = just_parts frame.own begun xs t b.1 in
        let o = some_of (get_or xs t None) p.1 in
        has_between frame.own begun after n t b.0 (just_from frame.own begun after t o.0 p.0 (stays t o.0 o.1) p.2)

    -- what wasn't known didn't run before
    unbegun : (t : ℕ) → get_or xs t None ≡ None → get_or begun t None ≡ None
    unbegun t e = one (get_or begun t None) refl
      where
        one : (x : Option Outcome) → get_or begun t None ≡ x → x ≡ None
        one None q = refl
        one (Some o) q = absurd (none-some o (sym e ∙ kept t o q))

    new : (t : ℕ) → Has t (ran_positions plan) → Has t all
    new t h =
        let r = ran_has plan n t h in
        let o = r.1.0 in
        let c = comes o r.1.1 in
        let own = runs o (sym (closure_at plan n t r.0) ∙ c.1) c.0 in
        has_between frame.own begun after n t r.0 (just_from frame.own begun after t o (left_own frame xs t own).0 c.1 (unbegun t c.0))
      where
        comes : (o : Outcome) → run_outcome plan t ≡ Some o → (get_or xs t None ≡ None) × (get_or after t None ≡ Some o)
        comes o e = one (get_or xs t None) refl e
          where
            one : (x : Option Outcome) → get_or xs t None ≡ x → unless_known x (get_or after t None) ≡ Some o → (get_or xs t None ≡ None) × (get_or after t None ≡ Some o)
            one None q k = (q, k)
            one (Some p) q k = absurd (none-some o k)

        runs : (o : Outcome) → comes_to plan t (known_at plan t) (closure_upto plan t) ≡ Some o → get_or xs t None ≡ None → is_own plan t ≡ true
        runs o e q = one (can_run plan t (closure_upto plan t)) refl (sym (ap (λ k. comes_to plan t k (closure_upto plan t)) q) ∙ e)
          where
            one : (b : Bool) → can_run plan t (closure_upto plan t) ≡ b → cond b (Some (run_of plan t (closure_upto plan t))) None ≡ Some o → is_own plan t ≡ true
            one true d k = (and_parts (is_own plan t) (knows_all plan.table.kind (txn_at plan.txns t) plan.txns (closure_upto plan t)) d).0
            one false d k = absurd (none-some o k)

    back : (t : ℕ) → Has t all → Has t (before ++ (ran_positions plan ++ []))
    back t h =
        let b = between_has frame.own begun after n t h in
        let p = just_parts frame.own begun after t b.1 in
        one b.0 p.0 (some_of (get_or after t None) p.1) p.2 (get_or xs t None) refl
      where
        one : t < n → get_or frame.own t false ≡ true → (o : Outcome) × (get_or after t None ≡ Some o) → get_or begun t None ≡ None → (x : Option Outcome) → get_or xs t None ≡ x → Has t (before ++ (ran_positions plan ++ []))
        one l own o e (Some p) q = has_left before (ran_positions plan ++ []) t (has_between frame.own begun xs n t l (just_from frame.own begun xs t p own q e))
        one l own o e None q = has_right before (ran_positions plan ++ []) t (has_left (ran_positions plan) [] t (has_ran plan n t o.0 l (ap (λ x. unless_known x (get_or after t None)) q ∙ o.1)))
