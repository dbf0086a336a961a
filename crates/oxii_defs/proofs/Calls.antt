-- The laws of a whole call.
use Rattle.std.proofs.Common.{◌≡◌, ◌⊎◌, inl, inr, ℕ, Ok, Err, map, refl, sym, ap, ◌∙◌, subst}
use Rattle.std.specs.FinMap as map_of
use Rattle.std.specs.Ordering.{nat_cmp}
use Rattle.oxii_defs.specs.Syntax.{Stmts}
use Rattle.oxii_defs.specs.State.{State}
use Rattle.oxii_defs.specs.Calls.{Frame, call_in, fresh}
use Rattle.oxii_defs.specs.Meaning.{LeadsAll, FailsAll, Ends, Aborts, HasOutcome}
use Rattle.oxii_defs.specs.Running.{Answer, after_all}
use Rattle.oxii_defs.specs.Outcomes.{run, outcome, outcome_from}
use Rattle.oxii_defs.specs.Laws.{IsDecided, CallsAreDecided, OutcomesAreMeant}
use Rattle.oxii_defs.proofs.Values.{Told}
use Rattle.oxii_defs.proofs.Statements.{leads_is, fails_is, told_all}
use Rattle.txn_types.specs.declared.txn.Reason.{Reason}
use Rattle.txn_types.specs.declared.txn.Txn.{Txn}
use Rattle.txn_types.specs.declared.txn.Outcome.{Outcome}
use Rattle.txn_types.specs.declared.txn.Outcome.TheVariants.{Commit, Abort}

written_same : (f g : Frame) → ◌≡◌ {A = Answer Frame} (Ok f) (Ok g) → f.written ≡ g.written
written_same f g e = cc

reason_same : (r q : Reason) → ◌≡◌ {A = Answer Frame} (Err r) (Err q) → r ≡ q
reason_same r q e = cc

apart : (f : Frame) (r : Reason) → ◌≡◌ {A = Answer Frame} (Ok f) (Err r) → ⊥
apart f r e = cc

module _ (body : Stmts) (t : Txn) (s : State) where
  decided_by : (a : Answer Frame) → Told (LeadsAll (call_in s t) body (fresh t.writes)) (FailsAll (call_in s t) body (fresh t.writes)) a →
      ((w : map_of.FinMap nat_cmp ℕ) × Ends body t s w) ⊎ ((r : Reason) × Aborts body t s r)
  decided_by (Ok f) h = inl (f.written, (f, h, refl))
  decided_by (Err r) h = inr (r, h)

  ended : (f : Frame) → LeadsAll (call_in s t) body (fresh t.writes) f → after_all (call_in s t) body (fresh t.writes) ≡ Ok f
  ended f h = leads_is (call_in s t) body (fresh t.writes) f h

  aborted : (r : Reason) → Aborts body t s r → after_all (call_in s t) body (fresh t.writes) ≡ Err r
  aborted r h = fails_is (call_in s t) body (fresh t.writes) r h

  pub decided : IsDecided body t s
  decided = record {
    one = decided_by (after_all (call_in s t) body (fresh t.writes)) (told_all (call_in s t) body (fresh t.writes));
    not_both = λ w r end abort. apart end.0 r (sym (ended end.0 end.1) ∙ aborted r abort);
    one_end = λ w u end other. sym end.2 ∙ written_same end.0 other.0 (sym (ended end.0 end.1) ∙ ended other.0 other.1) ∙ other.2;
    one_reason = λ r q one other. reason_same r q (sym (aborted r one) ∙ aborted q other);
  }

pub calls_decided : CallsAreDecided
calls_decided = decided

-- the relations give what the program gives
has_outcome : (body : Stmts) (t : Txn) (s : State) (o : Outcome) → HasOutcome body t s o → o ≡ outcome body t s
unfolding run
has_outcome body t s (Commit entries) (w, end, e) =
    ap Commit (e ∙ ap (λ m. map (map_of.get m) t.writes) (sym end.2)) ∙ sym (ap (outcome_from t.writes) (ended body t s end.0 end.1))
has_outcome body t s (Abort r) h = sym (ap (outcome_from t.writes) (aborted body t s r h))

-- and the program what the relations give
gives_outcome : (body : Stmts) (t : Txn) (s : State) → HasOutcome body t s (outcome body t s)
unfolding run
gives_outcome body t s = one (after_all (call_in s t) body (fresh t.writes)) (told_all (call_in s t) body (fresh t.writes))
  where
    one : (a : Answer Frame) → Told (LeadsAll (call_in s t) body (fresh t.writes)) (FailsAll (call_in s t) body (fresh t.writes)) a → HasOutcome body t s (outcome_from t.writes a)
    one (Ok f) h = (f.written, (f, h, refl), refl)
    one (Err r) h = h

pub outcomes_meant : OutcomesAreMeant
outcomes_meant body t s o = (λ h. has_outcome body t s o h, λ e. subst (HasOutcome body t s) (sym e) (gives_outcome body t s))
