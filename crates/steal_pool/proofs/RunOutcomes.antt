-- What a run of a plan gives each position fits.
use Rattle.std.specs.Prelude.{ℕ, ◌≡◌, List, length, get_or, Option, Some, None}
use Rattle.std.proofs.Common.{sym, ◌∙◌, subst, arith, ⊎_elim}
use Rattle.std.proofs.lemmas.Bool.{cases_lt}
use Rattle.std.proofs.lemmas.List.{get_or_past}
use Rattle.std.proofs.lemmas.Option.{none-some}
use Rattle.txn_types.specs.declared.txn.Outcome.{Outcome}
use Rattle.board_defs.specs.Closure.{Plan, IsLawfulPlan, known_at, closure, unless_known, run_outcome, run_outcomes}
use Rattle.trace_laws.proofs.RunOutcomes.{length_run_outcomes, run_outcomes_at}
use Rattle.script_laws.proofs.Fitted.{outcome_fits}
use Rattle.steal_pool.specs.Fitting.{AllFitAt}

-- what a run gives is what the closure has
run_comes : (plan : Plan) (t : ℕ) (o : Outcome) → run_outcome plan t ≡ Some o → get_or (closure plan) t None ≡ Some o
run_comes plan t o = one (known_at plan t)
  where
    one : (x : Option Outcome) → unless_known x (get_or (closure plan) t None) ≡ Some o → get_or (closure plan) t None ≡ Some o
    one None e = e
    one (Some p) e = absurd (none-some o e)

pub runs_fit : (plan : Plan) → IsLawfulPlan plan → AllFitAt plan.txns (run_outcomes plan)
runs_fit plan h t o e = ⊎_elim
    (λ l. outcome_fits plan h t o l (run_comes plan t o (sym (run_outcomes_at plan (length plan.txns) t l) ∙ e)))
    (λ l. absurd (none-some o (sym (get_or_past (run_outcomes plan) t None (omega (arith, length_run_outcomes plan (length plan.txns), l))) ∙ e)))
    (cases_lt t (length plan.txns))

-- of equal outcomes too
pub all_fit : (plan : Plan) (outcomes : List (Option Outcome)) → IsLawfulPlan plan → outcomes ≡ run_outcomes plan → AllFitAt plan.txns outcomes
all_fit plan outcomes h e = subst (AllFitAt plan.txns) (sym e) (runs_fit plan h)
