-- What the words say when a frame is closed.
use Rattle.std.proofs.Common.{◌≡◌, ℕ, zero, suc, true, cond, ◌+◌, ◌<◌, ⊎_elim, List, [], ◌∷◌, length, get_or, sym, refl, ap, ◌∙◌, subst, arith, Option, Some, None}
use Rattle.std.specs.List.{All}
use mathlib.Core.Logic.{dite}
use native.Mathlib.Decide.{ℕ_discrete}
use Rattle.std.proofs.lemmas.List.{length-append, get_or_push, get_or_append_left, ext_get_or}
use Rattle.board_defs.specs.Closure.{run_outcome, run_outcomes, run_outcomes_upto}
use Rattle.board_defs.specs.Trace.{Span}
use Rattle.board_core.specs.Counts.{Run}
use Rattle.board_core.specs.Traces.{IsTrace}
use Rattle.script_laws.specs.Placed.{span_of_run, with_run, placed}
use Rattle.script_laws.proofs.Traced.{run_own, run_other, traces_law}
use Rattle.trace_laws.proofs.Members.{Has, has_cases, all_of}
use Rattle.trace_laws.proofs.RunOutcomes.{length_run_outcomes, run_outcomes_at}
use Rattle.std.specs.Prelude.{is_some}
use Rattle.std.proofs.lemmas.Bool.{and_from, and_parts, cases_Bool}
use mathlib.Core.Option.{some}
use lib.ListN.{get_elem?}
use Rattle.atomic_table.specs.Table.{State}
use Rattle.txn_types.specs.declared.txn.Outcome.{Outcome}
use Rattle.txn_types.specs.declared.txn.Outcome.TheVariants.{Commit}
use Rattle.known_defs.specs.Known.{txn_at}
use Rattle.board_defs.specs.Closure.{Plan, IsLawfulPlan, is_own}
use Rattle.board_core.specs.declared.view.View.{View}
use Rattle.board_core.specs.Counts.{times_first, times}
use Rattle.board_core.specs.Words.{part}
use Rattle.board_core.specs.Script.{Script}
use Rattle.board_core.specs.Rule.{Holds}
use Rattle.board_core.specs.Passes.{IsSettled, IsComplete, IsDone}
use Rattle.board_core.proofs.Closing.{word_runs, word_rests}
use Rattle.board_work.specs.declared.layout.Layout.{Layout}
use Rattle.board_work.specs.Scripts.{script, script_of, outcome_at, writes_at, word_of}
use Rattle.script_laws.specs.Laws.{IsLawfulClose}
use Rattle.script_laws.proofs.Sound.{own_below}
use Rattle.script_laws.proofs.Fitted.{outcome_fits, fits_long}

-- the last pass, as the rule of its frame sees it
pub record IsLast (p : Script) (v : View) : Type 0 where
  pub complete : IsComplete v
  pub settled : IsSettled p v
  pub done : IsDone v

-- what a pass keeps is the same, whatever the words keep
pub settled_for : (layout : Layout) (plan : Plan) (v : View) → IsSettled (script plan) v → IsSettled (script_of layout plan) v
settled_for layout plan v h = record { counted = h.counted; taken_begun = h.taken_begun; unpublished = h.unpublished; unwritten = h.unwritten; runs = h.runs; duties_own = h.duties_own; spans = h.spans }

pub last_is : (layout : Layout) (key mine : Plan) (v u : View) → mine ≡ key → v ≡ u → IsSettled (script mine) v → IsComplete u → ((t : ℕ) → 0 < times t u.duties → 0 < times t u.tried) → ((t : ℕ) → 0 < times_first t u.begins → 0 < times_first t u.finishes) → IsLast (script_of layout key) v
last_is layout key mine v u same e settled complete tried free =
    let here = subst (λ z. IsSettled (script z) v) same settled in record {
      complete = subst IsComplete (sym e) complete;
      settled = settled_for layout key v here;
      done = record {
        tried = subst (λ (x : View). (t : ℕ) → 0 < times t x.duties → 0 < times t x.tried) (sym e) tried;
        begun = here.taken_begun;
        finished = subst (λ (x : View). (t : ℕ) → 0 < times_first t x.begins → 0 < times_first t x.finishes) (sym e) free;
      };
    }

-- each word of an own position is that of what it comes to
pub word_is : (layout : Layout) (q : Plan) (s : State ℕ View) (id : ℕ) (v : View) → Holds (script_of layout q) s → get_elem? s.views id ≡ some v → IsLast (script_of layout q) v → (t k : ℕ) → is_own q t ≡ true → k < 1 + length (writes_at q t) → part s.words t k ≡ word_of (outcome_at q t) k
word_is layout q s id v h at last t k own l = go (outcome_at q t) refl
  where
    go : (o : Option Outcome) → outcome_at q t ≡ o → part s.words t k ≡ word_of (outcome_at q t) k
    go (Some x) e = word_runs (script_of layout q) s id v h at last.complete last.settled last.done t k (and_from (is_own q t) (is_some (outcome_at q t)) own (ap is_some e)) l
    go None e = word_rests (script_of layout q) s id v h at last.complete last.settled last.done t k own (λ runs. let a = (and_parts (is_own q t) (is_some (outcome_at q t)) runs).1 in let b = ap is_some e in absurd (cc)) l ∙ sym (ap (λ o. word_of o k) e)

-- a commit has an entry for each record written
pub cells_long : (q : Plan) (t : ℕ) (cells : List (Option ℕ)) → IsLawfulPlan q → is_own q t ≡ true → outcome_at q t ≡ Some (Commit cells) → length cells ≡ length (writes_at q t)
cells_long q t cells h own e = fits_long (txn_at q.txns t) (Commit cells) cells (outcome_fits q h t (Commit cells) (own_below q h t own) e) refl

-- the outcomes that were read are those that a run gives
pub outcomes_are : (q : Plan) (outcomes : List (Option Outcome)) → IsLawfulPlan q → length outcomes ≡ length q.txns → ((t : ℕ) → t < length q.txns → get_or outcomes t None ≡ cond (is_own q t) (outcome_at q t) None) → outcomes ≡ run_outcomes q
outcomes_are q outcomes h long each = ext_get_or None outcomes (run_outcomes q) (long ∙ sym (length_run_outcomes q (length q.txns)))
    (λ t l. each t (omega arith) ∙ (⊎_elim
    (λ own. ap (λ b. cond b (outcome_at q t) None) own ∙ sym (run_own q h t own))
    (λ other. ap (λ b. cond b (outcome_at q t) None) other ∙ sym (run_other q h t (omega arith) other))
    (cases_Bool (is_own q t)) ∙ sym (run_outcomes_at q (length q.txns) t (omega arith))))

places : (v : View) (run_at : ℕ → Option Run) → ((t : ℕ) (r : Run) → run_at t ≡ Some r → 0 < times r.1 v.numbers) → (m : ℕ) (s : Span) → Has s (placed run_at m) → (r : Run) × (s ≡ span_of_run r) × (0 < times r.1 v.numbers)
places v run_at each zero s has = absurd has
places v run_at each (suc m) s has = go (places v run_at each m s) (run_at m) refl has
  where
    go : (Has s (placed run_at m) → (r : Run) × (s ≡ span_of_run r) × (0 < times r.1 v.numbers)) → (o : Option Run) → run_at m ≡ o → Has s (with_run (placed run_at m) o) → (r : Run) × (s ≡ span_of_run r) × (0 < times r.1 v.numbers)
    go more (Some r) e i = ⊎_elim more (λ new. ⊎_elim (λ is. (r, is, each m r e)) (λ none. absurd none) new) (has_cases (placed run_at m) (span_of_run r ∷ []) s i)
    go more None e i = more i

-- the workers of the trace are numbers that the pass has taken in
workers_are : (layout : Layout) (q : Plan) (v : View) (run_at : ℕ → Option Run) → IsTrace (script_of layout q) v run_at → All (λ s. 0 < times s.worker v.numbers) (placed run_at (length q.txns))
workers_are layout q v run_at trace = all_of (λ s. 0 < times s.worker v.numbers) (placed run_at (length q.txns))
    (λ s has. let p = places v run_at (λ t r is. (trace.by_pass t r is).0) (length q.txns) s has in subst (λ (x : Span). 0 < times x.worker v.numbers) (sym p.1) p.2)

-- a lawful close, where the words are for this plan and the pass is this one
pub closes_by : (layout : Layout) (key plan : Plan) (v u : View) (run_at : ℕ → Option Run) (spans : List Span) → key ≡ plan → v ≡ u → IsLawfulPlan key → IsTrace (script_of layout key) v run_at → spans ≡ placed run_at (length key.txns)
    → IsLawfulClose plan u spans × All (λ s. 0 < times s.worker u.numbers) spans
closes_by layout key plan v u run_at spans same e h trace is = subst (λ xs. IsLawfulClose plan u xs × All (λ s. 0 < times s.worker u.numbers) xs) (sym is)
    (subst (λ q. IsLawfulClose q u (placed run_at (length key.txns))) same (subst (λ z. IsLawfulClose key z (placed run_at (length key.txns))) e (traces_law layout key v run_at h trace)), subst (λ (z : View). All (λ s. 0 < times s.worker z.numbers) (placed run_at (length key.txns))) e (workers_are layout key v run_at trace))
