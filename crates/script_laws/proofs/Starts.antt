-- The values with which a board begins: after the known outcomes, the rule of the value words holds.
use Rattle.std.proofs.Common.{◌≡◌, ℕ, zero, suc, Bool, true, false, ◌&&◌, ◌<◌, ◌≤◌, ◌⊎◌, inl, inr, ⊎_elim, List, [], ◌∷◌, length, take, sym, refl, ap, ◌∙◌, subst, arith, Option, Some, None}
use Rattle.std.specs.Prelude.{is_some}
use mathlib.Core.Logic.{dite}
use native.Mathlib.Decide.{ℕ_discrete, dec_lt}
use Rattle.std.proofs.lemmas.List.{take_all}
use Rattle.std.proofs.lemmas.Bool.{and_parts, and_from, or_right, cases_Bool}
use Rattle.txn_types.specs.declared.txn.Outcome.{Outcome}
use Rattle.oxii_defs.specs.State.{value_in, contains}
use Rattle.known_defs.specs.Known.{after_known}
use Rattle.board_defs.specs.Closure.{Plan, known_at}
use Rattle.board_core.specs.Script.{Gives, IsAfter, or_else, value_at, serial_value}
use Rattle.board_core.specs.Traces.{one_if}
use Rattle.script_laws.specs.Laws.{IsFullPlan}
use Rattle.board_work.specs.Scripts.{outcome_at, reads_at, writes_at, gives, script}
use Rattle.script_laws.proofs.States.{value_after}
use Rattle.script_laws.proofs.Sound.{known_is, known_below, known_closed, writer_before, gives_is, one_of, of_none}

-- the value after the known outcomes of the first m positions
abbrev start_value : Plan → ℕ → ℕ → ℕ
start_value plan m r = value_at (value_in plan.base) (λ t q. gives (known_at plan t) (writes_at plan t) q) m r

some_or : (o : Option ℕ) → ((x : ℕ) × (o ≡ Some x)) ⊎ (o ≡ None)
some_or (Some x) = inl (x, refl)
some_or None = inr refl

unknown_none : (o : Option Outcome) (ws : List ℕ) (r : ℕ) → is_some o ≡ false → gives o ws r ≡ None
unknown_none (Some o) ws r e = absurd (cc)
unknown_none None ws r e = refl

not_none : (o : Option ℕ) → o ≡ None → is_some o ≡ true → ⊥
not_none o e h = absurd (none_no o e h)
  where
    none_no : (o : Option ℕ) → o ≡ None → is_some o ≡ true → ⊥
    none_no (Some x) e h = absurd (cc)
    none_no None e h = absurd (cc)

both_ways : (b : Bool) → b ≡ false → b ≡ true → ⊥
both_ways true e h = absurd (cc)
both_ways false e h = absurd (cc)

module _ (plan : Plan) (h : IsFullPlan plan) where
  abbrev early_at : ℕ → ℕ → ℕ
  early_at t r = one_if (is_some (known_at plan t) && is_some (gives (outcome_at plan t) (writes_at plan t) r))

  -- a cut in the first m positions
  record Begun (m r : ℕ) : Type 0 where
    cut : ℕ
    low : cut ≤ m
    put_below : (t : ℕ) → t < cut → Gives (script plan) t r → 0 < early_at t r
    none_from : (t : ℕ) → cut ≤ t → t < m → early_at t r ≡ 0
    value_is : start_value plan m r ≡ serial_value (script plan) cut r

  known_gives : (t r : ℕ) → is_some (known_at plan t) ≡ true → gives (known_at plan t) (writes_at plan t) r ≡ gives (outcome_at plan t) (writes_at plan t) r
  known_gives t r known = ap (λ o. gives o (writes_at plan t) r) (sym (known_is plan h.lawful t known))

  not_early : (t r : ℕ) → (is_some (known_at plan t) ≡ false) ⊎ (gives (outcome_at plan t) (writes_at plan t) r ≡ None) → early_at t r ≡ 0
  not_early t r why = of_none (is_some (known_at plan t) && is_some (gives (outcome_at plan t) (writes_at plan t) r)) (λ b. let p = and_parts (is_some (known_at plan t)) (is_some (gives (outcome_at plan t) (writes_at plan t) r)) b in
      ⊎_elim (λ e. both_ways (is_some (known_at plan t)) e p.0) (λ e. not_none (gives (outcome_at plan t) (writes_at plan t) r) e p.1) why)

  is_early : (t r : ℕ) → is_some (known_at plan t) ≡ true → Gives (script plan) t r → 0 < early_at t r
  is_early t r known g = one_of (is_some (known_at plan t) && is_some (gives (outcome_at plan t) (writes_at plan t) r)) (and_from (is_some (known_at plan t)) (is_some (gives (outcome_at plan t) (writes_at plan t) r)) known (ap is_some g.1))

  stays : (m r : ℕ) → Begun m r → early_at m r ≡ 0 → gives (known_at plan m) (writes_at plan m) r ≡ None → Begun (suc m) r
  stays m r old empty nothing_given = record {
    cut = old.cut;
    low = let a = old.low in omega arith;
    put_below = old.put_below;
    none_from = λ t a b. dite (ℕ_discrete t m) (λ e. ap (λ z. early_at z r) e ∙ empty) (λ ne. old.none_from t a (omega arith));
    value_is = ap (λ o. or_else o (start_value plan m r)) nothing_given ∙ old.value_is;
  }

  begins : (m r : ℕ) → m ≤ length plan.txns → Begun m r
  begins zero r l = record { cut = 0; low = omega arith; put_below = λ t lt g. absurd (omega arith); none_from = λ t a b. absurd (omega arith); value_is = refl }
  begins (suc m) r l = let old = begins m r (omega arith) in ⊎_elim
      (λ known. ⊎_elim
      (λ g. let is : gives (outcome_at plan m) (writes_at plan m) r ≡ Some g.0 = sym (known_gives m r known) ∙ g.1 in
      -- all earlier writers are known
      let before : (t : ℕ) → t < m → Gives (script plan) t r → 0 < early_at t r = (λ t lt gt.
      let w = gives_is (outcome_at plan t) (writes_at plan t) r (ap is_some gt.1) in
      let u = gives_is (outcome_at plan m) (writes_at plan m) r (ap is_some is) in
      is_early t r (known_closed plan h.lawful t m (writer_before plan h t m r lt w (or_right (contains (reads_at plan m) r) (contains (writes_at plan m) r) u)) known) gt) in
      record {
        cut = suc m;
        low = omega arith;
        put_below = λ t lt gt. dite (ℕ_discrete t m) (λ e. subst (λ z. 0 < early_at z r) (sym e) (is_early m r known (g.0, is))) (λ ne. before t (omega arith) gt);
        none_from = λ t a b. absurd (omega arith);
        value_is = (λ k. or_else (known_gives m r known k) (start_value plan m r)) ∙ (ap (λ o. or_else o (start_value plan m r)) is ∙ sym (ap (λ o. or_else o (serial_value (script plan) m r)) is));
      })
      (λ none_given. stays m r old (not_early m r (inr (sym (known_gives m r known) ∙ none_given))) none_given)
      (some_or (gives (known_at plan m) (writes_at plan m) r)))
      (λ unknown. stays m r old (not_early m r (inl unknown)) (unknown_none (known_at plan m) (writes_at plan m) r unknown))
      (cases_Bool (is_some (known_at plan m)))

  begun_after : (r : ℕ) → Begun (length plan.txns) r → IsAfter (script plan) (start_value plan (length plan.txns) r) (λ t. early_at t r) r
  begun_after r b = record {
    cut = b.cut;
    put_below = b.put_below;
    none_from = λ t a. go t a (dec_lt t (length plan.txns));
    value_is = b.value_is;
  }
    where
      go : (t : ℕ) → b.cut ≤ t → Dec (t < length plan.txns) → early_at t r ≡ 0
      go t a (yes l) = b.none_from t a l
      go t a (no n) = ⊎_elim (λ known. absurd (n (known_below plan h.lawful t known))) (λ e. not_early t r (inl e)) (cases_Bool (is_some (known_at plan t)))

  -- a word that has the value of its record after the known outcomes
  pub starts : (r word : ℕ) → word ≡ value_in (after_known plan.base plan.txns plan.known) r → IsAfter (script plan) word (λ t. early_at t r) r
  starts r word e =
      let long = h.lawful.known_long in
      let b = begun_after r (begins (length plan.txns) r (omega arith)) in
      let is : word ≡ start_value plan (length plan.txns) r = e ∙ (ap (λ os. value_in (after_known plan.base plan.txns os) r) (sym (take_all (length plan.txns) plan.known (omega arith))) ∙ value_after plan.base plan.txns plan.known (length plan.txns) r (omega arith) (omega arith)) in
      record { cut = b.cut; put_below = b.put_below; none_from = b.none_from; value_is = is ∙ b.value_is }
