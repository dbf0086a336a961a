-- The program for statements gives what the relations say.
use Rattle.std.proofs.Common.{◌≡◌, inl, inr, ℕ, zero, suc, Bool, true, false, cond, Ok, Err, length, refl, sym, ap}
use Rattle.oxii_defs.specs.Syntax.{Expr, Cond, Stmt, Let, SetLocal, SetRec, Require, If, Repeat, Stmts, Done, Then}
use Rattle.oxii_defs.specs.State.{contains}
use Rattle.oxii_defs.specs.Calls.{Call, Frame, record_at, with_local, with_local_at, with_written, leave}
use Rattle.oxii_defs.specs.Meaning.{HasValue, Stops, HasTruth, TestStops, Scoped, Turns, TurnsStop, Leads, LeadsAll, Fails, FailsAll}
use Rattle.oxii_defs.specs.Running.{Answer, and_then, value_of, truth_of, scoped, turns, write, after, after_all}
use Rattle.oxii_defs.proofs.Values.{Told, value_is, stop_is, told_value}
use Rattle.oxii_defs.proofs.Tests.{truth_is, test_stop_is, told_truth}
use Rattle.txn_types.specs.declared.txn.Reason.{Reason}
use Rattle.txn_types.specs.declared.txn.Reason.TheVariants as reason

-- BLOCKS AND TURNS, over any body

module _ (Body : Frame → Frame → Type 0) (Stop : Frame → Reason → Type 0) (body : Frame → Answer Frame) where
  module _ (leads : (f g : Frame) → Body f g → body f ≡ Ok g) (stops : (f : Frame) (r : Reason) → Stop f r → body f ≡ Err r) where
    scoped_is : (f g : Frame) → Scoped Body f g → scoped body f ≡ Ok g
    scoped_is f g (m, h, e) = rw (leads f m h) (ap Ok (sym e))

    scoped_stop_is : (f : Frame) (r : Reason) → Stop f r → scoped body f ≡ Err r
    scoped_stop_is f r h = rw (stops f r h)

  told_scoped_at : (f : Frame) (p : Answer Frame) → Told (Body f) (Stop f) p → Told (Scoped Body f) (Stop f) (and_then p (λ g. Ok (leave (length f.locals) g)))
  told_scoped_at f (Ok m) h = (m, h, refl)
  told_scoped_at f (Err r) h = h

  told_scoped : ((f : Frame) → Told (Body f) (Stop f) (body f)) → (f : Frame) → Told (Scoped Body f) (Stop f) (scoped body f)
  told_scoped told f = told_scoped_at f (body f) (told f)

  module _ (leads : (f g : Frame) → Body f g → body f ≡ Ok g) (stops : (f : Frame) (r : Reason) → Stop f r → body f ≡ Err r) where
    turns_is : (n : ℕ) (f g : Frame) → Turns n Body f g → turns n body f ≡ Ok g
    turns_is zero f g e = ap Ok (sym e)
    turns_is (suc n) f g (m, h, rest) = rw (leads f m h) (turns_is n m g rest)

    turns_stop_is : (n : ℕ) (f : Frame) (r : Reason) → TurnsStop n Body Stop f r → turns n body f ≡ Err r
    turns_stop_is zero f r h = absurd h
    turns_stop_is (suc n) f r (inl h) = rw (stops f r h)
    turns_stop_is (suc n) f r (inr (m, h, rest)) = rw (leads f m h) (turns_stop_is n m r rest)

  told_more : (n : ℕ) (f m : Frame) → Body f m → (p : Answer Frame) → Told (Turns n Body m) (TurnsStop n Body Stop m) p →
      Told (Turns (suc n) Body f) (TurnsStop (suc n) Body Stop f) p
  told_more n f m h (Ok g) k = (m, h, k)
  told_more n f m h (Err r) k = inr (m, h, k)

  told_turn : (n : ℕ) (f : Frame) (p : Answer Frame) → Told (Body f) (Stop f) p → ((m : Frame) → Told (Turns n Body m) (TurnsStop n Body Stop m) (turns n body m)) →
      Told (Turns (suc n) Body f) (TurnsStop (suc n) Body Stop f) (and_then p (turns n body))
  told_turn n f (Ok m) h rest = told_more n f m h (turns n body m) (rest m)
  told_turn n f (Err r) h rest = inl h

  told_turns : ((f : Frame) → Told (Body f) (Stop f) (body f)) → (n : ℕ) (f : Frame) → Told (Turns n Body f) (TurnsStop n Body Stop f) (turns n body f)
  told_turns told zero f = refl
  told_turns told (suc n) f = told_turn n f (body f) (told f) (told_turns told n)

-- FROM THE RELATIONS TO THE PROGRAM

mutual
  unfolding after

  pub lead_is : (c : Call) (s : Stmt) (f g : Frame) → Leads c s f g → after c s f ≡ Ok g
  lead_is c (Let slot name e) f g (v, h, w) = rw (value_is c f e v h) (ap Ok (sym w))
  lead_is c (SetLocal i e) f g (v, h, w) = rw (value_is c f e v h) (ap Ok (sym w))
  lead_is c (SetRec i e) f g (v, h, may, w) = rw (value_is c f e v h, may) (ap Ok (sym w))
  lead_is c (Require p) f g (h, w) = rw (truth_is c f p true h) (ap Ok (sym w))
  lead_is c (If p first second) f g (inl (h, k)) =
      rw (truth_is c f p true h) (scoped_is (LeadsAll c first) (FailsAll c first) (after_all c first) (leads_is c first) (fails_is c first) f g k)
  lead_is c (If p first second) f g (inr (h, k)) =
      rw (truth_is c f p false h) (scoped_is (LeadsAll c second) (FailsAll c second) (after_all c second) (leads_is c second) (fails_is c second) f g k)
  lead_is c (Repeat n body) f g h =
      turns_is (Scoped (LeadsAll c body)) (FailsAll c body) (scoped (after_all c body))
      (scoped_is (LeadsAll c body) (FailsAll c body) (after_all c body) (leads_is c body) (fails_is c body))
      (scoped_stop_is (LeadsAll c body) (FailsAll c body) (after_all c body) (leads_is c body) (fails_is c body)) n f g h

  pub leads_is : (c : Call) (body : Stmts) (f g : Frame) → LeadsAll c body f g → after_all c body f ≡ Ok g
  leads_is c Done f g e = ap Ok (sym e)
  leads_is c (Then s rest) f g (m, h, k) = rw (lead_is c s f m h) (leads_is c rest m g k)

  pub fail_is : (c : Call) (s : Stmt) (f : Frame) (r : Reason) → Fails c s f r → after c s f ≡ Err r
  fail_is c (Let slot name e) f r h = rw (stop_is c f e r h)
  fail_is c (SetLocal i e) f r h = rw (stop_is c f e r h)
  fail_is c (SetRec i e) f r (inl h) = rw (stop_is c f e r h)
  fail_is c (SetRec i e) f r (inr (v, h, may, w)) = rw (value_is c f e v h, may) (ap Err (sym w))
  fail_is c (Require p) f r (inl h) = rw (test_stop_is c f p r h)
  fail_is c (Require p) f r (inr (h, w)) = rw (truth_is c f p false h) (ap Err (sym w))
  fail_is c (If p first second) f r (inl h) = rw (test_stop_is c f p r h)
  fail_is c (If p first second) f r (inr (inl (h, k))) = rw (truth_is c f p true h, fails_is c first f r k)
  fail_is c (If p first second) f r (inr (inr (h, k))) = rw (truth_is c f p false h, fails_is c second f r k)
  fail_is c (Repeat n body) f r h =
      turns_stop_is (Scoped (LeadsAll c body)) (FailsAll c body) (scoped (after_all c body))
      (scoped_is (LeadsAll c body) (FailsAll c body) (after_all c body) (leads_is c body) (fails_is c body))
      (scoped_stop_is (LeadsAll c body) (FailsAll c body) (after_all c body) (leads_is c body) (fails_is c body)) n f r h

  pub fails_is : (c : Call) (body : Stmts) (f : Frame) (r : Reason) → FailsAll c body f r → after_all c body f ≡ Err r
  fails_is c Done f r h = absurd h
  fails_is c (Then s rest) f r (inl h) = rw (fail_is c s f r h)
  fails_is c (Then s rest) f r (inr (m, h, k)) = rw (lead_is c s f m h) (fails_is c rest m r k)

-- FROM THE PROGRAM TO THE RELATIONS

module _ (c : Call) (f : Frame) where
  told_let : (slot : ℕ) (name : _) (e : Expr) (p : Answer ℕ) → Told (HasValue c f e) (Stops c f e) p →
      Told (Leads c (Let slot name e) f) (Fails c (Let slot name e) f) (and_then p (λ v. Ok (with_local f v)))
  told_let slot name e (Ok v) h = (v, h, refl)
  told_let slot name e (Err r) h = h

  told_local : (i : ℕ) (e : Expr) (p : Answer ℕ) → Told (HasValue c f e) (Stops c f e) p →
      Told (Leads c (SetLocal i e) f) (Fails c (SetLocal i e) f) (and_then p (λ v. Ok (with_local_at f i v)))
  told_local i e (Ok v) h = (v, h, refl)
  told_local i e (Err r) h = h

  told_write : (i : ℕ) (e : Expr) (v : ℕ) → HasValue c f e v → (b : Bool) → contains f.writes (record_at c i) ≡ b →
      Told (Leads c (SetRec i e) f) (Fails c (SetRec i e) f) (cond b (Ok (with_written f (record_at c i) v)) (Err reason.Undeclared))
  told_write i e v h true may = (v, h, may, refl)
  told_write i e v h false may = inr (v, h, may, refl)

  told_rec : (i : ℕ) (e : Expr) (p : Answer ℕ) → Told (HasValue c f e) (Stops c f e) p →
      Told (Leads c (SetRec i e) f) (Fails c (SetRec i e) f) (and_then p (λ v. write (record_at c i) v f))
  told_rec i e (Ok v) h = told_write i e v h (contains f.writes (record_at c i)) refl
  told_rec i e (Err r) h = inl h

  told_require : (p : Cond) (a : Answer Bool) → Told (HasTruth c f p) (TestStops c f p) a →
      Told (Leads c (Require p) f) (Fails c (Require p) f) (and_then a (λ x. cond x (Ok f) (Err reason.Require)))
  told_require p (Ok true) h = (h, refl)
  told_require p (Ok false) h = inr (h, refl)
  told_require p (Err r) h = inl h

  told_first : (p : Cond) (first second : Stmts) → HasTruth c f p true → (a : Answer Frame) → Told (Scoped (LeadsAll c first) f) (FailsAll c first f) a →
      Told (Leads c (If p first second) f) (Fails c (If p first second) f) a
  told_first p first second h (Ok g) k = inl (h, k)
  told_first p first second h (Err r) k = inr (inl (h, k))

  told_second : (p : Cond) (first second : Stmts) → HasTruth c f p false → (a : Answer Frame) → Told (Scoped (LeadsAll c second) f) (FailsAll c second f) a →
      Told (Leads c (If p first second) f) (Fails c (If p first second) f) a
  told_second p first second h (Ok g) k = inr (h, k)
  told_second p first second h (Err r) k = inr (inr (h, k))

  told_if : (p : Cond) (first second : Stmts) (a : Answer Bool) → Told (HasTruth c f p) (TestStops c f p) a →
      Told (Scoped (LeadsAll c first) f) (FailsAll c first f) (scoped (after_all c first) f) →
      Told (Scoped (LeadsAll c second) f) (FailsAll c second f) (scoped (after_all c second) f) →
      Told (Leads c (If p first second) f) (Fails c (If p first second) f) (and_then a (λ x. cond x (scoped (after_all c first) f) (scoped (after_all c second) f)))
  told_if p first second (Ok true) h one two = told_first p first second h (scoped (after_all c first) f) one
  told_if p first second (Ok false) h one two = told_second p first second h (scoped (after_all c second) f) two
  told_if p first second (Err r) h one two = inl h

  told_rest : (s : Stmt) (rest : Stmts) (m : Frame) → Leads c s f m → (a : Answer Frame) → Told (LeadsAll c rest m) (FailsAll c rest m) a →
      Told (LeadsAll c (Then s rest) f) (FailsAll c (Then s rest) f) a
  told_rest s rest m h (Ok g) k = (m, h, k)
  told_rest s rest m h (Err r) k = inr (m, h, k)

  told_then : (s : Stmt) (rest : Stmts) (a : Answer Frame) → Told (Leads c s f) (Fails c s f) a →
      ((m : Frame) → Told (LeadsAll c rest m) (FailsAll c rest m) (after_all c rest m)) →
      Told (LeadsAll c (Then s rest) f) (FailsAll c (Then s rest) f) (and_then a (after_all c rest))
  told_then s rest (Ok m) h next = told_rest s rest m h (after_all c rest m) (next m)
  told_then s rest (Err r) h next = inl h

mutual
  unfolding after

  pub told_after : (c : Call) (s : Stmt) (f : Frame) → Told (Leads c s f) (Fails c s f) (after c s f)
  told_after c (Let slot name e) f = told_let c f slot name e (value_of c f e) (told_value c f e)
  told_after c (SetLocal i e) f = told_local c f i e (value_of c f e) (told_value c f e)
  told_after c (SetRec i e) f = told_rec c f i e (value_of c f e) (told_value c f e)
  told_after c (Require p) f = told_require c f p (truth_of c f p) (told_truth c f p)
  told_after c (If p first second) f =
      told_if c f p first second (truth_of c f p) (told_truth c f p)
      (told_scoped (LeadsAll c first) (FailsAll c first) (after_all c first) (told_all c first) f)
      (told_scoped (LeadsAll c second) (FailsAll c second) (after_all c second) (told_all c second) f)
  told_after c (Repeat n body) f =
      told_turns (Scoped (LeadsAll c body)) (FailsAll c body) (scoped (after_all c body))
      (told_scoped (LeadsAll c body) (FailsAll c body) (after_all c body) (told_all c body)) n f

  pub told_all : (c : Call) (body : Stmts) (f : Frame) → Told (LeadsAll c body f) (FailsAll c body f) (after_all c body f)
  told_all c Done f = refl
  told_all c (Then s rest) f = told_then c f s rest (after c s f) (told_after c s f) (told_all c rest)
