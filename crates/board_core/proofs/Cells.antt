-- The value words: each is the value after the writers so far, and a reader finds the serial value.
use Rattle.std.proofs.Common.{◌≡◌, ℕ, zero, suc, ◌+◌, ◌-◌, ◌<◌, ◌≤◌, ⊎_elim, sym, refl, ap, ◌∙◌, arith, Option, Some, None}
use mathlib.Core.Logic.{dite}
use native.Mathlib.Decide.{ℕ_discrete, dec_le}
use Rattle.board_core.specs.Counts.{hit}
use Rattle.board_core.specs.Script.{Script, IsOwn, Gives, IsAfter, or_else, serial_value}
use Rattle.board_core.specs.Sums.{CounterSums}
use Rattle.board_core.specs.Rule.{Counters}
use Rattle.board_core.proofs.Totals.{below_lt, hits}

-- where the need of t is 0, each edge into t is counted
pub all_counted : (p : Script) (need turn : ℕ → ℕ) (m : CounterSums) (s t : ℕ) → Counters p need turn m → IsOwn p t → s < p.size → need t ≡ 0 → m.counted s t ≡ p.edge s t
all_counted p need turn m s t h lt ls zero_need = dite (ℕ_discrete (m.counted s t) (p.edge s t)) (λ e. e)
    (λ ne. let le = h.counted_once s t in let balance = h.needs_balance t lt in let short = below_lt (p.size) s (λ x. m.counted x t) (λ x. p.edge x t) ls (λ x _. h.counted_once x t) (omega arith) in absurd (omega arith))

unwritten : (o : Option ℕ) (v : ℕ) → ((x : ℕ) → o ≡ Some x → ⊥) → v ≡ or_else o v
unwritten (Some x) v never = absurd (never x refl)
unwritten None v never = refl

skip : (p : Script) (r a d : ℕ) → ((t : ℕ) → a ≤ t → t < a + d → Gives p t r → ⊥) → serial_value p a r ≡ serial_value p (a + d) r
skip p r a zero never = ap (λ k. serial_value p k r) (omega arith)
skip p r a (suc d) never = let e : a + suc d ≡ suc (a + d) = omega arith in
    skip p r a d (λ t l k. never t l (omega arith)) ∙ (unwritten (p.effect (a + d) r) (serial_value p (a + d) r) (λ x is. never (a + d) (omega arith) (omega arith) (x, is)) ∙ ap (λ k. serial_value p k r) (sym e))

-- a reader whose earlier writers have put their values, and whose later ones have not, finds its serial value
pub inputs_are_serial : (p : Script) (word : ℕ) (put : ℕ → ℕ) (r t : ℕ) → IsAfter p word put r → ((s : ℕ) → s < t → Gives p s r → 0 < put s) → ((s : ℕ) → t ≤ s → put s ≡ 0) → word ≡ serial_value p t r
inputs_are_serial p word put r t h earlier later = h.value_is ∙ go (dec_le h.cut t)
  where
    go : Dec (h.cut ≤ t) → serial_value p h.cut r ≡ serial_value p t r
    go (yes l) = (let d = t - h.cut in let e : h.cut + d ≡ t = omega arith in skip p r h.cut d (λ s a b is. let q = earlier s (omega arith) is in let z = h.none_from s a in absurd (omega arith)) ∙ ap (λ k. serial_value p k r) e)
    go (no ne) = (let d = h.cut - t in let e : t + d ≡ h.cut = omega arith in sym (skip p r t d (λ s a b is. let q = h.put_below s (omega arith) is in let z = later s a in absurd (omega arith)) ∙ ap (λ k. serial_value p k r) e))

-- a writer whose earlier writers have put theirs, and whose later ones have not, puts its value
pub writes_value : (p : Script) (word word' : ℕ) (put put' : ℕ → ℕ) (r t x : ℕ) → IsAfter p word put r → p.effect t r ≡ Some x → ((s : ℕ) → s < t → Gives p s r → 0 < put s) → ((s : ℕ) → t < s → put s ≡ 0)
    → word' ≡ x → ((s : ℕ) → put' s ≡ hit s t + put s) → IsAfter p word' put' r
writes_value p word word' put put' r t x h is earlier later now puts = record {
  cut = suc t;
  put_below = λ s l gives. let q = puts s in ⊎_elim (λ q. let a = q.1 in omega arith) (λ q. let a = earlier s (let ne = q.0 in omega arith) gives in omega arith) (hits s t);
  none_from = λ s l. let q = puts s in let a = later s (omega arith) in ⊎_elim (λ q. let b = q.0 in absurd (omega arith)) (λ q. let b = q.1 in omega arith) (hits s t);
  value_is = now ∙ ap (λ o. or_else o (serial_value p t r)) (sym is);
}

-- a word that is after its writers stays so where the writers are the same
pub after_same : (p : Script) (word word' : ℕ) (put put' : ℕ → ℕ) (r : ℕ) → word' ≡ word → ((t : ℕ) → put' t ≡ put t) → IsAfter p word put r → IsAfter p word' put' r
after_same p word word' put put' r e same h = record {
  cut = h.cut;
  put_below = λ t l gives. let a = h.put_below t l gives in let b = same t in omega arith;
  none_from = λ t l. same t ∙ h.none_from t l;
  value_is = e ∙ h.value_is;
}
