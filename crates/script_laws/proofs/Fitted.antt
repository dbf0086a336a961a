-- Outcomes of a plan fit their transactions, and the state before each position is a state.
use Rattle.std.proofs.Common.{◌≡◌, ℕ, zero, suc, Bool, true, false, cond, ◌<◌, ◌≤◌, List, [], ◌∷◌, length, get_or, sym, refl, ap, ◌∙◌, subst, arith, Option, Some, None}
use Rattle.std.specs.Prelude.{IfSome, unwrap_or}
use Rattle.std.specs.FinMap as map
use Rattle.txn_types.specs.declared.txn.Outcome.{Outcome}
use Rattle.txn_types.specs.declared.txn.Outcome.TheVariants.{Commit}
use Rattle.txn_types.specs.declared.txn.Txn.{Txn}
use Rattle.txn_types.specs.Fitting.{Fits}
use Rattle.txn_types.specs.Values.{IsValue, max_value}
use Rattle.oxii_defs.specs.State.{State, value_in, IsState}
use Rattle.oxii_defs.specs.Table.{body_of}
use Rattle.oxii_defs.specs.Outcomes.{outcome}
use Rattle.oxii_defs.proofs.Small.{outcomes_fit, states_stay}
use Rattle.known_defs.specs.Known.{txn_at, no_txn}
use Rattle.board_defs.specs.Closure.{Plan, known_at, can_run, run_of, comes_to, closure_upto}
use Rattle.oxii_defs.proofs.Lawful.{op_well_formed}
use Rattle.txn_core.proofs.StateLemmas.{fit_length, fit_entry}
use Rattle.board_defs.specs.Closure.{IsLawfulPlan}
use Rattle.board_work.specs.Scripts.{apply_known, outcome_at, state_before}
use Rattle.script_laws.proofs.States.{after_nothing, after_known-push, comes_at, outcome_is}
use Rattle.trace_laws.proofs.Entries.{has_place}
use Rattle.trace_laws.proofs.Plans.{length_closure}

module _ (plan : Plan) (h : IsLawfulPlan plan) where
  -- what runs in a state fits
  run_fits : (t : ℕ) → t < length plan.txns → IsState (state_before plan t) → Fits (txn_at plan.txns t) (run_of plan t (closure_upto plan t))
  run_fits t l is = let a = h.txns t no_txn l in
      subst (λ o. Fits (txn_at plan.txns t) (outcome (body_of o) (txn_at plan.txns t) (state_before plan t))) (sym a.named)
      (outcomes_fit a.op (txn_at plan.txns t) (state_before plan t) (op_well_formed plan.table (txn_at plan.txns t) a.op h.table a.named) a.matched is)

  comes_fits : (t : ℕ) → t < length plan.txns → IsState (state_before plan t) → (o : Outcome) → comes_at plan t ≡ Some o → Fits (txn_at plan.txns t) o
  comes_fits t l is o e = by_known (known_at plan t) refl e
    where
      by_run : (b : Bool) → cond b (Some (run_of plan t (closure_upto plan t))) None ≡ Some o → Fits (txn_at plan.txns t) o
      by_run true e = subst (Fits (txn_at plan.txns t)) (cc) (run_fits t l is)
      by_run false e = absurd (cc)

      by_known : (k : Option Outcome) → known_at plan t ≡ k → comes_to plan t k (closure_upto plan t) ≡ Some o → Fits (txn_at plan.txns t) o
      by_known (Some x) is_known e = h.known_fits t o (is_known ∙ e)
      by_known None is_known e = by_run (can_run plan t (closure_upto plan t)) e

  stays : (s : State) (t : Txn) (k : Option Outcome) → IsState s → ((o : Outcome) → k ≡ Some o → Fits t o) → IsState (apply_known s t k)
  stays s t None is fit = is
  stays s t (Some o) is fit = states_stay s t o is (fit o refl)

  pub state_ok : (t : ℕ) → t ≤ length plan.txns → IsState (state_before plan t)
  state_ok zero l = subst IsState (sym (after_nothing plan.base plan.txns)) h.base
  state_ok (suc t) l =
      let is = state_ok t (omega arith) in let len = length_closure plan t in
      let step = after_known-push plan.base plan.txns (closure_upto plan t) (comes_at plan t) (omega arith) ∙ ap (λ k. apply_known (state_before plan t) (txn_at plan.txns k) (comes_at plan t)) len in
      subst IsState (sym step) (stays (state_before plan t) (txn_at plan.txns t) (comes_at plan t) is (comes_fits t (omega arith) is))

  pub outcome_fits : (t : ℕ) (o : Outcome) → t < length plan.txns → outcome_at plan t ≡ Some o → Fits (txn_at plan.txns t) o
  outcome_fits t o l e = comes_fits t l (state_ok t (omega arith)) o (sym (outcome_is plan t l) ∙ e)

-- the entries of a fitting commit
pub fits_long : (t : Txn) (o : Outcome) (cells : List (Option ℕ)) → Fits t o → o ≡ Commit cells → length cells ≡ length t.writes
fits_long t o cells fit e = fit_length t.writes cells (subst (Fits t) e fit)

pub fits_small : (t : Txn) (o : Outcome) (cells : List (Option ℕ)) → Fits t o → o ≡ Commit cells → (j x : ℕ) → get_or cells j None ≡ Some x → x < 4611686018427387904
fits_small t o cells fit e j x at = let fine = subst (Fits t) e fit in
    let v = value_of (get_or cells j None) x at (fit_entry t.writes cells j None fine (has_place cells j x at)) in omega arith
  where
    value_of : (o : Option ℕ) (x : ℕ) → o ≡ Some x → IfSome o IsValue → x ≤ max_value
    value_of o x e v = subst (λ (y : Option ℕ). IfSome y IsValue) e v

pub value_small : (s : State) (r : ℕ) → IsState s → value_in s r ≤ max_value
value_small s r is = go (map.get s r) refl
  where
    go : (o : Option ℕ) → map.get s r ≡ o → unwrap_or o 0 ≤ max_value
    go (Some v) e = (is.in_range r v e).1
    go None e = omega arith
