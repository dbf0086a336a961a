-- The program for expressions gives what the relations say.
use Rattle.std.proofs.Common.{◌≡◌, inl, inr, ℕ, ◌+◌, ◌*◌, Bool, true, false, cond, Option, Some, None, Ok, Err, nat_le, ◌==◌, refl, sym, ap, arith}
use Rattle.std.specs.FinMap as map
use Rattle.std.proofs.lemmas.Bool.Decides.{nat_tests}
use Rattle.oxii_defs.specs.Syntax.{Operator, Add, Sub, Mul, Div, Rem, Expr, Num, Param, Local, Rec, Calc}
use Rattle.oxii_defs.specs.Calls.{Call, Frame, record_at}
use Rattle.oxii_defs.specs.Meaning.{Makes, Refuses, HasValue, Stops}
use Rattle.oxii_defs.specs.Running.{Answer, both, calc, read, value_of}
use Rattle.txn_types.specs.declared.txn.Reason.{Reason}
use Rattle.txn_types.specs.Values.{max_value}

-- what an answer says
abbrev pub Told : {A : Type 0} → (A → Type 0) → (Reason → Type 0) → Answer A → Type 0
Told P Q (Ok v) = P v
Told P Q (Err r) = Q r

makes_is : (op : Operator) (x y v : ℕ) → Makes op x y v → calc op x y ≡ Ok v
makes_is Add x y v h = grind (arith, nat_tests)
makes_is Sub x y v h = grind (arith, nat_tests)
makes_is Mul x y v h = grind (arith, nat_tests)
makes_is Div x y v h = grind (arith, nat_tests)
makes_is Rem x y v h = grind (arith, nat_tests)

refuses_is : (op : Operator) (x y : ℕ) (r : Reason) → Refuses op x y r → calc op x y ≡ Err r
refuses_is Add x y r h = grind (arith, nat_tests)
refuses_is Sub x y r h = grind (arith, nat_tests)
refuses_is Mul x y r h = grind (arith, nat_tests)
refuses_is Div x y r h = grind (arith, nat_tests)
refuses_is Rem x y r h = grind (arith, nat_tests)

told_if : (P : ℕ → Type 0) (Q : Reason → Type 0) (b : Bool) (v : ℕ) (r : Reason) → (b ≡ true → P v) → (b ≡ false → Q r) →
    Told P Q (cond b (Ok v) (Err r))
told_if P Q true v r then_it else_it = then_it refl
told_if P Q false v r then_it else_it = else_it refl

told_unless : (P : ℕ → Type 0) (Q : Reason → Type 0) (b : Bool) (v : ℕ) (r : Reason) → (b ≡ true → Q r) → (b ≡ false → P v) →
    Told P Q (cond b (Err r) (Ok v))
told_unless P Q true v r then_it else_it = then_it refl
told_unless P Q false v r then_it else_it = else_it refl

told_calc : (op : Operator) (x y : ℕ) → Told (Makes op x y) (Refuses op x y) (calc op x y)
told_calc Add x y = told_if (Makes Add x y) (Refuses Add x y) (nat_le (x + y) max_value) _ _ (λ e. (refl, grind (arith, nat_tests))) (λ e. (grind (arith, nat_tests), refl))
told_calc Sub x y = told_if (Makes Sub x y) (Refuses Sub x y) (nat_le y x) _ _ (λ e. grind (arith, nat_tests)) (λ e. (grind (arith, nat_tests), refl))
told_calc Mul x y = told_if (Makes Mul x y) (Refuses Mul x y) (nat_le (x * y) max_value) _ _ (λ e. (refl, grind (arith, nat_tests))) (λ e. (grind (arith, nat_tests), refl))
told_calc Div x y = told_unless (Makes Div x y) (Refuses Div x y) (y == 0) _ _ (λ e. (grind (arith, nat_tests), refl)) (λ e. (grind (arith, nat_tests), refl))
told_calc Rem x y = told_unless (Makes Rem x y) (Refuses Rem x y) (y == 0) _ _ (λ e. (grind (arith, nat_tests), refl)) (λ e. (grind (arith, nat_tests), refl))

module _ (c : Call) (f : Frame) where
  pub value_is : (e : Expr) (v : ℕ) → HasValue c f e v → value_of c f e ≡ Ok v
  unfolding value_of
  value_is (Num n) v h = ap Ok (sym h)
  value_is (Param i) v h = ap Ok (sym h)
  value_is (Local i) v h = ap Ok (sym h)
  value_is (Rec i) v (inl h) = rw h
  value_is (Rec i) v (inr h) = rw (h.0, h.1)
  value_is (Calc op a b) v (x, y, p, q, m) = rw (value_is a x p, value_is b y q) (makes_is op x y v m)

  pub stop_is : (e : Expr) (r : Reason) → Stops c f e r → value_of c f e ≡ Err r
  unfolding value_of
  stop_is (Num n) r h = absurd h
  stop_is (Param i) r h = absurd h
  stop_is (Local i) r h = absurd h
  stop_is (Rec i) r h = rw (h.0, h.1) (ap Err (sym h.2))
  stop_is (Calc op a b) r (inl p) = rw (stop_is a r p)
  stop_is (Calc op a b) r (inr (inl (x, p, q))) = rw (value_is a x p, stop_is b r q)
  stop_is (Calc op a b) r (inr (inr (x, y, p, q, m))) = rw (value_is a x p, value_is b y q) (refuses_is op x y r m)

  told_op : (op : Operator) (a b : Expr) (x y : ℕ) → HasValue c f a x → HasValue c f b y →
      (answer : Answer ℕ) → Told (Makes op x y) (Refuses op x y) answer → Told (HasValue c f (Calc op a b)) (Stops c f (Calc op a b)) answer
  told_op op a b x y p q (Ok v) m = (x, y, p, q, m)
  told_op op a b x y p q (Err r) m = inr (inr (x, y, p, q, m))

  told_both : (op : Operator) (a b : Expr) (p q : Answer ℕ) → Told (HasValue c f a) (Stops c f a) p → Told (HasValue c f b) (Stops c f b) q →
      Told (HasValue c f (Calc op a b)) (Stops c f (Calc op a b)) (both (calc op) p q)
  told_both op a b (Err r) q h k = inl h
  told_both op a b (Ok x) (Err r) h k = inr (inl (x, h, k))
  told_both op a b (Ok x) (Ok y) h k = told_op op a b x y h k (calc op x y) (told_calc op x y)

  told_read : (i : ℕ) (w s : Option ℕ) → map.get f.written (record_at c i) ≡ w → c.reads (record_at c i) ≡ s →
      Told (HasValue c f (Rec i)) (Stops c f (Rec i)) (read c (record_at c i) w)
  told_read i (Some v) s e g = inl e
  told_read i None (Some v) e g = rw g (inr (e, g))
  told_read i None None e g = rw g (e, g, refl)

  pub told_value : (e : Expr) → Told (HasValue c f e) (Stops c f e) (value_of c f e)
  unfolding value_of
  told_value (Num n) = refl
  told_value (Param i) = refl
  told_value (Local i) = refl
  told_value (Rec i) = told_read i _ _ refl refl
  told_value (Calc op a b) = told_both op a b (value_of c f a) (value_of c f b) (told_value a) (told_value b)
