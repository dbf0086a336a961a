-- The first pass: its duties are the own positions all of whose predecessors are known.
use Rattle.std.proofs.Common.{◌≡◌, ℕ, true, false, ⊎_elim, length, take, get_or, sym, refl, ap, ◌∙◌, subst, arith, Option, Some, None}
use Rattle.std.specs.Prelude.{is_some, nat_lt, Result, IfOk}
use Rattle.std.specs.declared.result.Result.TheVariants.{Ok, Err}
use mathlib.Core.Logic.{dite}
use native.Mathlib.Decide.{ℕ_discrete}
use Rattle.std.proofs.lemmas.List.{get_or-take, length-take-le}
use Rattle.std.proofs.lemmas.Bool.{false≢true, and_parts, and_from, lt-ltb, cases_Bool}
use Rattle.txn_types.specs.declared.txn.Outcome.{Outcome}
use Rattle.oxii_defs.specs.Dependency.{depends}
use Rattle.known_defs.specs.Known.{txn_at, knows_all}
use Rattle.board_defs.specs.Closure.{Plan, IsLawfulPlan, is_own, known_at}
use Rattle.board_core.specs.Steps.{planned, ready_below, first_view}
use Rattle.board_core.specs.Traces.{one_if}
use Rattle.board_core.proofs.Totals.{below_lt, below_zero}
use Rattle.board_work.specs.declared.layout.Layout.{Layout}
use Rattle.board_work.specs.PassStates.{AreReady, IsFirst, fresh_state}
use Rattle.board_work.specs.Scripts.{script, script_of, waits}
use Rattle.script_laws.proofs.Sound.{own_below, edge_is, edge_of}
use Rattle.trace_laws.proofs.Entries.{some_of, none_of}
use Rattle.trace_laws.proofs.Known.{knows_from}
use Rattle.trace_laws.proofs.Plans.{knows_at}
use Rattle.board_steps.specs.Abouts.{told}
use Rattle.board_frame.specs.Frames.{Standing, IsPassOf, frame_home}
use Rattle.board_frame.specs.Seen.{Seen, state_of_view, pass_state}
use Rattle.board_words.proofs.Opens.{ready_low, ready_all}

-- two facts of one value
pub both_ok : {T E : Type 0} (r : Result T E) (P Q : T → Type 0) → IfOk r P → IfOk r Q → IfOk r (λ x. P x × Q x)
both_ok (Ok x) P Q p q = (p, q)
both_ok (Err e) P Q p q = tt

module _ (plan : Plan) (h : IsLawfulPlan plan) where
  -- what waits for none has all its predecessors known
  waits_for_none : (t : ℕ) → is_own plan t ≡ true → planned (script plan) t ≡ 0 → knows_all plan.table.kind (txn_at plan.txns t) plan.txns (take t plan.known) ≡ true
  waits_for_none t own zero_need = let l = own_below plan h t own in let long = h.known_long in let len = length-take-le t plan.known (omega arith) in
      knows_from plan.table.kind (txn_at plan.txns t) plan.txns (take t plan.known) (λ s a b d. some_of (get_or (take t plan.known) s None)
      (⊎_elim (λ known. subst (λ o. is_some o ≡ true) (sym (get_or-take t plan.known s None (omega arith))) known)
      (λ unknown. absurd (let e = edge_of plan h s t own (none_of (known_at plan s) unknown) (and_from (nat_lt s t) (depends plan.table.kind (txn_at plan.txns s) (txn_at plan.txns t)) (lt-ltb s t (omega arith)) d) in
      let more = below_lt (length plan.txns) s (λ x. 0) (λ x. one_if (waits plan x t)) a (λ x k. omega arith) e in omega arith))
      (cases_Bool (is_some (known_at plan s)))))

  known_waits_none : (t : ℕ) → is_own plan t ≡ true → knows_all plan.table.kind (txn_at plan.txns t) plan.txns (take t plan.known) ≡ true → planned (script plan) t ≡ 0
  known_waits_none t own knows = let l = own_below plan h t own in let long = h.known_long in let len = length-take-le t plan.known (omega arith) in
      below_zero (length plan.txns) (λ s. one_if (waits plan s t)) (λ s ls. dite (ℕ_discrete (one_if (waits plan s t)) 0) (λ z. z) (λ n. absurd (
      let e = edge_is plan h s t (omega arith) in let lt = e.2 in
      let some = knows_at plan.table.kind (txn_at plan.txns t) plan.txns (take t plan.known) s ls (omega arith) knows e.3 in
      false≢true (sym (ap is_some e.1) ∙ subst (λ o. is_some o ≡ true) (get_or-take t plan.known s None lt) (ap is_some some.1)))))

  pub duties_are_ready : (layout : Layout) → AreReady plan (ready_below (length plan.txns) (script_of layout plan))
  duties_are_ready layout t = (
    (λ pos. let a = ready_low (length plan.txns) (script_of layout plan) t pos in and_from (is_own plan t) (knows_all plan.table.kind (txn_at plan.txns t) plan.txns (take t plan.known)) a.0 (waits_for_none t a.0 a.1)),
    λ can. let a = and_parts (is_own plan t) (knows_all plan.table.kind (txn_at plan.txns t) plan.txns (take t plan.known)) can in ready_all (length plan.txns) (script_of layout plan) t (own_below plan h t a.0) a.0 (known_waits_none t a.0 a.1),
  )

pub first_is : (layout : Layout) (plan : Plan) (b : Standing) (p : Seen) → IsLawfulPlan plan → IsPassOf b p → told b.about ≡ plan → p.view ≡ first_view (script_of layout plan) → IsFirst (frame_home b) (pass_state p)
first_is layout plan b p h of is view = record {
  fresh = (λ i. state_of_view (record { id = of.table i; plan = of.plan i }) (view i)) ∙ ap (fresh_state (frame_home b) 0 1) (sym (ap (λ v. v.duties) view));
  ready = subst (λ ds. AreReady (told b.about) ds) (sym (ap (λ v. v.duties) view)) (subst (λ q. AreReady q (ready_below (length plan.txns) (script_of layout plan))) (sym is) (duties_are_ready plan h layout));
}
