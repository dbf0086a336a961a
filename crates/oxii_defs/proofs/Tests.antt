-- The program for conditions gives what the relations say.
use Rattle.std.proofs.Common.{◌≡◌, inl, inr, ℕ, Bool, true, false, Ok, Err, refl, sym, ap}
use Rattle.oxii_defs.specs.Syntax.{Comparison, Expr, Cond, Cmp, And, Or, Not}
use Rattle.oxii_defs.specs.Calls.{Call, Frame}
use Rattle.oxii_defs.specs.Meaning.{compared, HasValue, Stops, HasTruth, TestStops}
use Rattle.oxii_defs.specs.Running.{Answer, both, conjunction, disjunction, negation, value_of, truth_of}
use Rattle.oxii_defs.proofs.Values.{Told, value_is, stop_is, told_value}
use Rattle.txn_types.specs.declared.txn.Reason.{Reason}

module _ (c : Call) (f : Frame) where
  pub truth_is : (t : Cond) (v : Bool) → HasTruth c f t v → truth_of c f t ≡ Ok v
  unfolding truth_of
  truth_is (Cmp op a b) v (x, y, p, q, e) = rw (value_is c f a x p, value_is c f b y q) (ap Ok (sym e))
  truth_is (And p q) v (inl (h, e)) = rw (truth_is p false h) (ap Ok (sym e))
  truth_is (And p q) v (inr (h, k)) = rw (truth_is p true h) (truth_is q v k)
  truth_is (Or p q) v (inl (h, e)) = rw (truth_is p true h) (ap Ok (sym e))
  truth_is (Or p q) v (inr (h, k)) = rw (truth_is p false h) (truth_is q v k)
  truth_is (Not p) v (u, h, e) = rw (truth_is p u h) (ap Ok (sym e))

  pub test_stop_is : (t : Cond) (r : Reason) → TestStops c f t r → truth_of c f t ≡ Err r
  unfolding truth_of
  test_stop_is (Cmp op a b) r (inl h) = rw (stop_is c f a r h)
  test_stop_is (Cmp op a b) r (inr (x, p, q)) = rw (value_is c f a x p, stop_is c f b r q)
  test_stop_is (And p q) r (inl h) = rw (test_stop_is p r h)
  test_stop_is (And p q) r (inr (h, k)) = rw (truth_is p true h) (test_stop_is q r k)
  test_stop_is (Or p q) r (inl h) = rw (test_stop_is p r h)
  test_stop_is (Or p q) r (inr (h, k)) = rw (truth_is p false h) (test_stop_is q r k)
  test_stop_is (Not p) r h = rw (test_stop_is p r h)

  told_cmp : (op : Comparison) (a b : Expr) (p q : Answer ℕ) → Told (HasValue c f a) (Stops c f a) p → Told (HasValue c f b) (Stops c f b) q →
      Told (HasTruth c f (Cmp op a b)) (TestStops c f (Cmp op a b)) (both (λ x y. Ok (compared op x y)) p q)
  told_cmp op a b (Err r) q h k = inl h
  told_cmp op a b (Ok x) (Err r) h k = inr (x, h, k)
  told_cmp op a b (Ok x) (Ok y) h k = (x, y, h, k, refl)

  told_and : (a b : Cond) (p q : Answer Bool) → Told (HasTruth c f a) (TestStops c f a) p → Told (HasTruth c f b) (TestStops c f b) q →
      Told (HasTruth c f (And a b)) (TestStops c f (And a b)) (conjunction p q)
  told_and a b (Err r) q h k = inl h
  told_and a b (Ok false) q h k = inl (h, refl)
  told_and a b (Ok true) (Ok v) h k = inr (h, k)
  told_and a b (Ok true) (Err r) h k = inr (h, k)

  told_or : (a b : Cond) (p q : Answer Bool) → Told (HasTruth c f a) (TestStops c f a) p → Told (HasTruth c f b) (TestStops c f b) q →
      Told (HasTruth c f (Or a b)) (TestStops c f (Or a b)) (disjunction p q)
  told_or a b (Err r) q h k = inl h
  told_or a b (Ok true) q h k = inl (h, refl)
  told_or a b (Ok false) (Ok v) h k = inr (h, k)
  told_or a b (Ok false) (Err r) h k = inr (h, k)

  told_not : (a : Cond) (p : Answer Bool) → Told (HasTruth c f a) (TestStops c f a) p → Told (HasTruth c f (Not a)) (TestStops c f (Not a)) (negation p)
  told_not a (Err r) h = h
  told_not a (Ok u) h = (u, h, refl)

  pub told_truth : (t : Cond) → Told (HasTruth c f t) (TestStops c f t) (truth_of c f t)
  unfolding truth_of
  told_truth (Cmp op a b) = told_cmp op a b (value_of c f a) (value_of c f b) (told_value c f a) (told_value c f b)
  told_truth (And p q) = told_and p q (truth_of c f p) (truth_of c f q) (told_truth p) (told_truth q)
  told_truth (Or p q) = told_or p q (truth_of c f p) (truth_of c f q) (told_truth p) (told_truth q)
  told_truth (Not p) = told_not p (truth_of c f p) (told_truth p)
