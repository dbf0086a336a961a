-- The plan of a round, and what its burst leaves known.
use Rattle.std.specs.Prelude.{ℕ, zero, suc, ◌<◌, ◌≤◌, ◌≡◌, Bool, true, false, not, ◌&&◌, cond, List, [], ◌∷◌, ◌++◌, length, get_or, take, Option, Some, None, is_some, refl}
use Rattle.std.specs.List.{All}
use Rattle.std.specs.Option.{option_or}
use Rattle.std.proofs.Common.{sym, ◌∙◌, ap, subst, arith, ⊎_elim}
use Rattle.std.proofs.lemmas.Bool.{true≢false, false≢true, and_parts, and_from, cases_lt}
use Rattle.std.proofs.lemmas.Option.{none-some, same_Some}
use Rattle.std.proofs.lemmas.List.{length_push, get_or_append_left, get_or_push, get_or_past, get_or-take, length-take-le, ext_get_or}
use Rattle.std.proofs.lemmas.List.Sums.{sum_by-cons}
use Rattle.txn_types.specs.Fitting.{Fits}
use Rattle.txn_types.specs.declared.txn.Outcome.{Outcome}
use Rattle.txn_types.specs.declared.txn.Txn.{Txn}
use Rattle.oxii_defs.specs.State.{IsState}
use Rattle.oxii_defs.specs.Lawful.{IsLawfulTxn, IsLawfulTable}
use Rattle.known_defs.specs.Known.{txn_at, knows_all}
use Rattle.board_defs.specs.Closure.{Plan, is_own, known_at, can_run, run_of, comes_to, closure_upto, closure, unless_known, run_outcomes, IsKnownClosed, IsLawfulPlan}
use Rattle.node_laws.proofs.Same.{Within}
use Rattle.node_laws.proofs.Growing.{knows_still}
use Rattle.node_laws.proofs.Order.{within_push}
use Rattle.node_laws.proofs.Settle.{within_at}
use Rattle.trace_laws.proofs.Plans.{length_closure, closure_at}
use Rattle.trace_laws.proofs.Entries.{has_place}
use Rattle.trace_laws.proofs.Known.{closure_law}
use Rattle.trace_laws.proofs.RunOutcomes.{run_outcomes_at}
use Rattle.steal_pool.specs.Fitting.{AllFitAt}
use Rattle.peer_parts.specs.Found.{given_by, found_by, IsKept, IsSound, HasGiven, unknown}
use Rattle.peer_parts.specs.Ready.{is_ready, NoneReady, left_upto, left_of, round_plan}
use Rattle.peer_parts.proofs.FoundLemmas.{found_at, given_more, sound_given, within_of}

pub none_is : (x : Option Outcome) → not (is_some x) ≡ true → x ≡ None
none_is None h = refl
none_is (Some o) h = absurd (false≢true h)

-- THE PLAN

pub length_left : (own : List Bool) (known : List (Option Outcome)) (n : ℕ) → length (left_upto own known n) ≡ n
length_left own known zero = refl
length_left own known (suc n) = omega (arith, length_push (left_upto own known n) (get_or own n false && not (is_some (get_or known n None))), length_left own known n)

left_at : (own : List Bool) (known : List (Option Outcome)) (n t : ℕ) → t < n → get_or (left_upto own known n) t false ≡ (get_or own t false && not (is_some (get_or known t None)))
left_at own known zero t h = absurd (omega arith)
left_at own known (suc n) t h = ⊎_elim (λ e. inside e (left_at own known n t e)) (λ e. last e) (cases_lt t n)
  where
    y : Bool
    y = get_or own n false && not (is_some (get_or known n None))

    inside : t < n → get_or (left_upto own known n) t false ≡ (get_or own t false && not (is_some (get_or known t None))) → get_or (left_upto own known n ++ y ∷ []) t false ≡ (get_or own t false && not (is_some (get_or known t None)))
    inside e more = get_or_append_left (left_upto own known n) (y ∷ []) false t (omega (arith, length_left own known n, e)) ∙ more

    last : n ≤ t → get_or (left_upto own known n ++ y ∷ []) t false ≡ (get_or own t false && not (is_some (get_or known t None)))
    last e = let k : n ≡ t = omega arith in get_or_push (left_upto own known n) y false t (length_left own known n ∙ k) ∙ ap (λ j. get_or own j false && not (is_some (get_or known j None))) k

-- what is to be run is this peer's, and isn't known
pub left_own : (frame : Plan) (xs : List (Option Outcome)) (t : ℕ) → is_own (round_plan frame xs) t ≡ true → (is_own frame t ≡ true) × (get_or xs t None ≡ None)
left_own frame xs t h = ⊎_elim
    (λ l. let p = and_parts (is_own frame t) (not (is_some (get_or xs t None))) (sym (left_at frame.own xs (length frame.own) t l) ∙ h) in (p.0, none_is (get_or xs t None) p.1))
    (λ l. absurd (false≢true (sym (get_or_past (left_of frame.own xs) t false (omega (arith, length_left frame.own xs (length frame.own), l))) ∙ h)))
    (cases_lt t (length frame.own))

own_left : (frame : Plan) (xs : List (Option Outcome)) (t : ℕ) → t < length frame.own → is_own frame t ≡ true → not (is_some (get_or xs t None)) ≡ true → is_own (round_plan frame xs) t ≡ true
own_left frame xs t l o k = left_at frame.own xs (length frame.own) t l ∙ and_from (is_own frame t) (not (is_some (get_or xs t None))) o k

pub lawful_round : (frame : Plan) (xs : List (Option Outcome)) → IsLawfulTable frame.table → length frame.txns ≤ 256 → All (IsLawfulTxn frame.table) frame.txns → IsState frame.base → length xs ≡ length frame.txns → length frame.own ≡ length frame.txns
    → IsKnownClosed frame.table.kind frame.txns xs → AllFitAt frame.txns xs → IsLawfulPlan (round_plan frame xs)
lawful_round frame xs table few txns base known own closed fits = record {
  table = table;
  few = few;
  txns = txns;
  base = base;
  known_long = known;
  own_long = length_left frame.own xs (length frame.own) ∙ own;
  known_closed = closed;
  known_fits = fits;
  own_unknown = λ t h. (left_own frame xs t h).1;
}

-- WHAT A BURST LEAVES KNOWN

burst_within : (frame : Plan) (agreed xs : List (Option Outcome)) → IsSound frame agreed xs → (t : ℕ) → t ≤ length frame.txns → Within (closure_upto (round_plan frame xs) t) (found_by frame agreed t)
burst_within frame agreed xs s zero h = tt
burst_within frame agreed xs s (suc t) h =
    let before = burst_within frame agreed xs s t (omega arith) in
    within_push (closure_upto plan t) (found_by frame agreed t) (comes_to plan t (known_at plan t) (closure_upto plan t)) (given_by frame (get_or agreed t None) t (found_by frame agreed t)) before (one (known_at plan t) refl before)
  where
    plan : Plan
    plan = round_plan frame xs

    one : (k : Option Outcome) → known_at plan t ≡ k → Within (closure_upto plan t) (found_by frame agreed t) → Within (comes_to plan t k (closure_upto plan t) ∷ []) (given_by frame (get_or agreed t None) t (found_by frame agreed t) ∷ [])
    one (Some o) e w = (sym (found_at frame agreed (length frame.txns) t (omega arith)) ∙ s t o e, tt)
    one None e w = two (can_run plan t (closure_upto plan t)) refl
      where
        two : (b : Bool) → can_run plan t (closure_upto plan t) ≡ b → Within (cond b (Some (run_of plan t (closure_upto plan t))) None ∷ []) (given_by frame (get_or agreed t None) t (found_by frame agreed t) ∷ [])
        two false q = tt
        two true q =
            let p = and_parts (is_own plan t) (knows_all plan.table.kind (txn_at plan.txns t) plan.txns (closure_upto plan t)) q in
            let here : given_by frame (get_or agreed t None) t (closure_upto plan t) ≡ Some (run_of plan t (closure_upto plan t)) =
            ap (λ b. cond b (cond (is_own frame t) (Some (run_of frame t (closure_upto plan t))) (get_or agreed t None)) None) p.1
            ∙ ap (λ b. cond b (Some (run_of frame t (closure_upto plan t))) (get_or agreed t None)) (left_own frame xs t p.0).0 in
            (given_more frame (get_or agreed t None) t (run_of plan t (closure_upto plan t)) (closure_upto plan t) (found_by frame agreed t) w here, tt)

-- what is sound stays so
pub sound_round : (frame : Plan) (agreed xs : List (Option Outcome)) → IsSound frame agreed xs → IsSound frame agreed (closure (round_plan frame xs))
sound_round frame agreed xs s t o h = within_at (closure (round_plan frame xs)) (found_by frame agreed (length frame.txns)) t o (burst_within frame agreed xs s (length frame.txns) (omega arith)) h

pub kept_round : (frame : Plan) (xs : List (Option Outcome)) → length xs ≡ length frame.txns → IsKnownClosed frame.table.kind frame.txns xs → IsKept xs (closure (round_plan frame xs))
kept_round frame xs n closed = (closure_law (round_plan frame xs) n closed).kept

pub closed_round : (frame : Plan) (xs : List (Option Outcome)) → length xs ≡ length frame.txns → IsKnownClosed frame.table.kind frame.txns xs → IsKnownClosed frame.table.kind frame.txns (closure (round_plan frame xs))
closed_round frame xs n closed = (closure_law (round_plan frame xs) n closed).is_closed

-- what was known, with what ran, is the closure
pub merged_is : (frame : Plan) (xs ran ys : List (Option Outcome)) → length xs ≡ length frame.txns → length ys ≡ length xs → IsKnownClosed frame.table.kind frame.txns xs → ran ≡ run_outcomes (round_plan frame xs)
    → ((t : ℕ) → get_or ys t None ≡ option_or (get_or xs t None) (get_or ran t None)) → ys ≡ closure (round_plan frame xs)
merged_is frame xs ran ys n m closed r merged =
    ext_get_or None ys (closure plan) (m ∙ (n ∙ sym (length_closure plan (length frame.txns)))) (λ t l. merged t ∙ (ap (λ (zs : List (Option Outcome)). option_or (get_or xs t None) (get_or zs t None)) r ∙ (ap (option_or (get_or xs t None)) (run_outcomes_at plan (length frame.txns) t (omega (arith, l, n, m))) ∙ one t (get_or xs t None) refl)))
  where
    plan : Plan
    plan = round_plan frame xs

    one : (t : ℕ) (k : Option Outcome) → get_or xs t None ≡ k → option_or k (unless_known k (get_or (closure plan) t None)) ≡ get_or (closure plan) t None
    one t None e = refl
    one t (Some o) e = sym (kept_round frame xs n closed t o e)

pub merged_fit : (txns : List Txn) (xs ran ys : List (Option Outcome)) → AllFitAt txns xs → AllFitAt txns ran → ((t : ℕ) → get_or ys t None ≡ option_or (get_or xs t None) (get_or ran t None)) → AllFitAt txns ys
merged_fit txns xs ran ys f g merged t o h = one (get_or xs t None) refl (sym (merged t) ∙ h)
  where
    one : (x : Option Outcome) → get_or xs t None ≡ x → option_or x (get_or ran t None) ≡ Some o → Fits (txn_at txns t) o
    one (Some p) e k = f t o (e ∙ k)
    one None e k = g t o k

-- WHAT IS READY RUNS

known_front : (frame : Plan) (xs : List (Option Outcome)) (t : ℕ) → length xs ≡ length frame.txns → t ≤ length frame.txns → Within (take t xs) (closure_upto (round_plan frame xs) t)
known_front frame xs t n l = within_of (take t xs) (closure_upto plan t) (length-take-le t xs (omega (arith, n, l)) ∙ sym (length_closure plan t)) (λ u o h.
    let below : u < t = omega (arith, has_place (take t xs) u o h, length-take-le t xs (omega (arith, n, l))) in
    closure_at plan t u below ∙ ap (λ k. comes_to plan u k (closure_upto plan u)) (sym (get_or-take t xs u None below) ∙ h))
  where
    plan : Plan
    plan = round_plan frame xs

-- a position that is ready is known once it has run
pub ready_runs : (frame : Plan) (xs : List (Option Outcome)) (t : ℕ) → length xs ≡ length frame.txns → length frame.own ≡ length frame.txns → t < length frame.txns → is_ready frame xs t ≡ true → (get_or xs t None ≡ None) × ((o : Outcome) × (get_or (closure (round_plan frame xs)) t None ≡ Some o))
ready_runs frame xs t n m l h =
    let p = and_parts (is_own frame t && not (is_some (get_or xs t None))) (knows_all frame.table.kind (txn_at frame.txns t) frame.txns (take t xs)) h in
    let q = and_parts (is_own frame t) (not (is_some (get_or xs t None))) p.0 in
    let none = none_is (get_or xs t None) q.1 in
    let runs : can_run plan t (closure_upto plan t) ≡ true =
    and_from (is_own plan t) (knows_all frame.table.kind (txn_at frame.txns t) frame.txns (closure_upto plan t)) (own_left frame xs t (omega (arith, l, m)) q.0 q.1)
    (knows_still frame.table.kind (txn_at frame.txns t) frame.txns (take t xs) (closure_upto plan t) (known_front frame xs t n (omega arith)) p.1) in
    (none, (run_of plan t (closure_upto plan t), closure_at plan (length frame.txns) t l ∙ (ap (λ k. comes_to plan t k (closure_upto plan t)) none ∙ ap (λ b. cond b (Some (run_of plan t (closure_upto plan t))) None) runs)))
  where
    plan : Plan
    plan = round_plan frame xs

few_unknown : (xs ys : List (Option Outcome)) → length ys ≡ length xs → IsKept xs ys → unknown ys ≤ unknown xs
few_unknown [] [] n k = omega arith
few_unknown [] (y ∷ ys) n k = absurd (omega (arith, n))
few_unknown (x ∷ xs) [] n k = absurd (omega (arith, n))
few_unknown (x ∷ xs) (y ∷ ys) n k = omega (arith, sum_by-cons (λ (z : Option Outcome). cond (not (is_some z)) 1 0) x xs, sum_by-cons (λ (z : Option Outcome). cond (not (is_some z)) 1 0) y ys, few_unknown xs ys (omega (arith, n)) (λ t o h. k (suc t) o h), head x (k 0))
  where
    small : (z : Option Outcome) → cond (not (is_some z)) 1 0 ≤ 1
    small None = omega arith
    small (Some p) = omega arith

    head : (z : Option Outcome) → ((o : Outcome) → z ≡ Some o → y ≡ Some o) → cond (not (is_some y)) 1 0 ≤ cond (not (is_some z)) 1 0
    head None f = small y
    head (Some o) f = omega (arith, ap {B = ℕ} (λ (z : Option Outcome). cond (not (is_some z)) 1 0) (f o refl))

pub fewer_unknown : (xs ys : List (Option Outcome)) (t : ℕ) (o : Outcome) → length ys ≡ length xs → IsKept xs ys → t < length xs → get_or xs t None ≡ None → get_or ys t None ≡ Some o → unknown ys < unknown xs
fewer_unknown [] ys t o n k l e f = absurd (omega arith)
fewer_unknown (x ∷ xs) [] t o n k l e f = absurd (omega (arith, n))
fewer_unknown (x ∷ xs) (y ∷ ys) zero o n k l e f = omega (arith, sum_by-cons (λ (z : Option Outcome). cond (not (is_some z)) 1 0) x xs, sum_by-cons (λ (z : Option Outcome). cond (not (is_some z)) 1 0) y ys, few_unknown xs ys (omega (arith, n)) (λ t p h. k (suc t) p h), ap {B = ℕ} (λ (z : Option Outcome). cond (not (is_some z)) 1 0) e, ap {B = ℕ} (λ (z : Option Outcome). cond (not (is_some z)) 1 0) f)
fewer_unknown (x ∷ xs) (y ∷ ys) (suc t) o n k l e f = omega (arith, sum_by-cons (λ (z : Option Outcome). cond (not (is_some z)) 1 0) x xs, sum_by-cons (λ (z : Option Outcome). cond (not (is_some z)) 1 0) y ys, fewer_unknown xs ys t o (omega (arith, n)) (λ u p h. k (suc u) p h) (omega arith) e f, head x (k 0))
  where
    small : (z : Option Outcome) → cond (not (is_some z)) 1 0 ≤ 1
    small None = omega arith
    small (Some p) = omega arith

    head : (z : Option Outcome) → ((p : Outcome) → z ≡ Some p → y ≡ Some p) → cond (not (is_some y)) 1 0 ≤ cond (not (is_some z)) 1 0
    head None g = small y
    head (Some p) g = omega (arith, ap {B = ℕ} (λ (z : Option Outcome). cond (not (is_some z)) 1 0) (g p refl))

-- with a position that was ready, more is known
pub ready_fewer : (frame : Plan) (xs ys : List (Option Outcome)) (t : ℕ) → length xs ≡ length frame.txns → length frame.own ≡ length frame.txns → IsKnownClosed frame.table.kind frame.txns xs → ys ≡ closure (round_plan frame xs) → (t < length frame.txns) × (is_ready frame xs t ≡ true) → unknown ys < unknown xs
ready_fewer frame xs ys t n m closed e r =
    let q = ready_runs frame xs t n m r.0 r.1 in
    subst (λ zs. unknown zs < unknown xs) (sym e)
    (fewer_unknown xs (closure (round_plan frame xs)) t q.1.0 (length_closure (round_plan frame xs) (length frame.txns) ∙ sym n) (kept_round frame xs n closed) (subst (λ i. t < i) (sym n) r.0) q.0 q.1.1)

-- where nothing is ready and what votes offer is known, all that is given is known
pub all_given : (frame : Plan) (agreed xs : List (Option Outcome)) → length xs ≡ length frame.txns → IsSound frame agreed xs → HasGiven (λ t. not (is_own frame t)) frame agreed xs (length frame.txns) → NoneReady frame xs (length frame.txns)
    → (t : ℕ) (o : Outcome) → t < length frame.txns → given_by frame (get_or agreed t None) t (take t xs) ≡ Some o → get_or xs t None ≡ Some o
all_given frame agreed xs n s others none t o l g = one (is_own frame t) refl
  where
    one : (b : Bool) → is_own frame t ≡ b → get_or xs t None ≡ Some o
    one false e = others t o l (ap not e) g
    one true e = two (get_or xs t None) refl
      where
        two : (x : Option Outcome) → get_or xs t None ≡ x → get_or xs t None ≡ Some o
        two (Some p) q = q ∙ ap Some (same_Some p o (sym (s t p q) ∙ sound_given frame agreed xs t o n s l g))
        two None q = absurd (true≢false (sym ready ∙ none t l))
          where
            knows : (b : Bool) → cond b (cond (is_own frame t) (Some (run_of frame t (take t xs))) (get_or agreed t None)) None ≡ Some o → b ≡ true
            knows true k = refl
            knows false k = absurd (none-some o k)

            ready : is_ready frame xs t ≡ true
            ready = and_from (is_own frame t && not (is_some (get_or xs t None))) (knows_all frame.table.kind (txn_at frame.txns t) frame.txns (take t xs))
                (and_from (is_own frame t) (not (is_some (get_or xs t None))) e (ap (λ z. not (is_some z)) q))
                (knows (knows_all frame.table.kind (txn_at frame.txns t) frame.txns (take t xs)) g)
