-- The values of a state, where they are the inputs.
use Rattle.std.proofs.Common.{◌≡◌, ◌≤◌, ◌<◌, ℕ, List, Option, Some, None, map, is_some, cond, refl, sym, ap, ◌∙◌, take, length, slice_index_or, slice_index, subst}
use mathlib.Core.Path.{fun_ext}
use Rattle.std.proofs.lemmas.List.{get_or-map, get_or-take}
use Rattle.oxii_defs.specs.Syntax.{Stmts, Op}
use Rattle.oxii_defs.specs.WellFormed.{IsWellFormed, Match}
use Rattle.oxii_defs.proofs.Small.{SmallCall, small_numbers, fit_run}
use Rattle.oxii_defs.specs.State.{State, value_in}
use Rattle.txn_types.specs.Values.{max_value}
use Rattle.oxii_defs.specs.Calls.{Frame, seen, fresh}
use Rattle.oxii_defs.specs.Running.{Answer, after_all}
use Rattle.oxii_defs.specs.Outcomes.{run, outcome, outcome_from}
use Rattle.txn_types.specs.Fitting.{Fits}
use Rattle.txn_types.specs.declared.txn.Arg.{Arg}
use Rattle.txn_types.specs.declared.txn.Txn.{Txn}
use Rattle.txn_core.specs.Frames.{place}
use Rattle.txn_core.specs.MeantCalls.{given, seen_input}
use Rattle.txn_core.proofs.WrittenLemmas.{place_is, contains_is}

seen_inputs_at : (rs : List ℕ) (s : State) (inputs : List ℕ) (r : ℕ) → map (value_in s) rs ≡ take (length rs) inputs →
    (o : Option ℕ) → place rs r ≡ o → cond (is_some o) (Some (value_in s r)) None ≡ seen_input inputs o
seen_inputs_at rs s inputs r same None e = refl
seen_inputs_at rs s inputs r same (Some i) e =
    let at = place_is rs r i e in
    ap Some (ap (value_in s) (sym at.1) ∙ sym (get_or-map (value_in s) rs i 0 0 at.0) ∙ ap (λ l. slice_index_or l i 0) same ∙ get_or-take _ _ _ _ at.0)

seen_inputs : (rs : List ℕ) (s : State) (inputs : List ℕ) → map (value_in s) rs ≡ take (length rs) inputs →
    seen rs s ≡ (λ r. seen_input inputs (place rs r))
seen_inputs rs s inputs same = fun_ext (λ r.
    ap (λ b. cond b (Some (value_in s r)) None) (contains_is rs r) ∙ seen_inputs_at rs s inputs r same (place rs r) refl)

-- the outcome in a state whose values at the read set are the inputs
outcome_given : (body : Stmts) (t : Txn) (s : State) (inputs : List ℕ) → map (value_in s) t.reads ≡ take (length t.reads) inputs →
    outcome body t s ≡ outcome_from t.writes (after_all (given t.args t.reads inputs) body (fresh t.writes))
unfolding run
outcome_given body t s inputs same =
    ap (λ (reads : ℕ → Option ℕ). outcome_from t.writes (after_all (record { args = t.args; reads = reads }) body (fresh t.writes))) (seen_inputs t.reads s inputs same)

-- the same, from what the calls of the evaluator's entry say
pub outcome_run : (body : Stmts) (t : Txn) (s : State) (inputs : List ℕ) → map (value_in s) t.reads ≡ take (length t.reads) inputs →
    {args : List Arg} {reads values : List ℕ} {ran : Stmts} {start : Frame} →
    args ≡ t.args → reads ≡ t.reads → values ≡ inputs → ran ≡ body → start ≡ fresh t.writes →
    {end : Answer Frame} → after_all (given args reads values) ran start ≡ end → outcome_from t.writes end ≡ outcome body t s
outcome_run body t s inputs same a r v b f m =
    ap (outcome_from t.writes) (sym m ∙ λ i. after_all (given (a i) (r i) (v i)) (b i) (f i)) ∙ sym (outcome_given body t s inputs same)

-- FITTING ANSWERS

module _ (args : List Arg) (reads inputs : List ℕ) (small : (i : ℕ) → i < length reads → slice_index inputs i ≤ max_value) where
  small_input : (r v : ℕ) (o : Option ℕ) → place reads r ≡ o → seen_input inputs o ≡ Some v → v ≤ max_value
  small_input r v None e is = cc
  small_input r v (Some i) e is = subst (λ n. n ≤ max_value) (same is) (small i (place_is reads r i e).0)
    where
      same : ◌≡◌ {A = Option ℕ} (Some (slice_index inputs i)) (Some v) → slice_index inputs i ≡ v
      same k = cc

  small_given : (op : Op) → Match op.params (args) → SmallCall (given args reads inputs)
  small_given op fit = record { numbers = λ i. small_numbers op.params (args) i fit; read = λ r v e. small_input r v (place reads r) refl e }

pub fit_given : (op : Op) (t : Txn) (inputs : List ℕ) → IsWellFormed op → Match op.params t.args →
    ((i : ℕ) → i < length t.reads → slice_index inputs i ≤ max_value) →
    {args : List Arg} {reads values : List ℕ} {ran : Stmts} {start : Frame} →
    args ≡ t.args → reads ≡ t.reads → values ≡ inputs → ran ≡ op.body → start ≡ fresh t.writes →
    {end : Answer Frame} → after_all (given args reads values) ran start ≡ end → Fits t (outcome_from t.writes end)
fit_given op t inputs well fit small a r v b f m =
    subst (λ e. Fits t (outcome_from t.writes e)) ((λ i. after_all (given (sym a i) (sym r i) (sym v i)) (sym b i) (sym f i)) ∙ m)
    (fit_run (given t.args t.reads inputs) op t (small_given t.args t.reads inputs small op fit) well)
