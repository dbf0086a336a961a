-- What a run gives each position.
use Rattle.std.specs.Prelude.{ℕ, zero, suc, ◌≡◌, ◌<◌, ◌≤◌, List, [], ◌∷◌, ◌++◌, length, get_or, None, refl}
use Rattle.std.proofs.Common.{◌∙◌, ap, arith, ⊎_elim}
use Rattle.std.proofs.lemmas.Bool.{cases_lt}
use Rattle.std.proofs.lemmas.List.{length_push, get_or_append_left, get_or_push}
use Rattle.board_defs.specs.Closure.{Plan, run_outcome, run_outcomes_upto}

pub length_run_outcomes : (plan : Plan) (n : ℕ) → length (run_outcomes_upto plan n) ≡ n
length_run_outcomes plan zero = refl
length_run_outcomes plan (suc n) = omega (arith, length_push (run_outcomes_upto plan n) (run_outcome plan n), length_run_outcomes plan n)

pub run_outcomes_at : (plan : Plan) (n t : ℕ) → t < n → get_or (run_outcomes_upto plan n) t None ≡ run_outcome plan t
run_outcomes_at plan zero t h = absurd (omega arith)
run_outcomes_at plan (suc n) t h = ⊎_elim (λ e. inside e (run_outcomes_at plan n t e)) (λ e. last e) (cases_lt t n)
  where
    inside : t < n → get_or (run_outcomes_upto plan n) t None ≡ run_outcome plan t → get_or (run_outcomes_upto plan n ++ run_outcome plan n ∷ []) t None ≡ run_outcome plan t
    inside e more = get_or_append_left (run_outcomes_upto plan n) (run_outcome plan n ∷ []) None t (omega (arith, length_run_outcomes plan n, e)) ∙ more

    last : n ≤ t → get_or (run_outcomes_upto plan n ++ run_outcome plan n ∷ []) t None ≡ run_outcome plan t
    last e = let k : n ≡ t = omega arith in get_or_push (run_outcomes_upto plan n) (run_outcome plan n) None t (length_run_outcomes plan n ∙ k) ∙ ap (run_outcome plan) k
