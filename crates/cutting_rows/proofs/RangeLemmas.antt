-- Numbers that count up.
use Rattle.std.proofs.Common.{◌≡◌, ℕ, zero, suc, ◌+◌, ◌<◌, ◌≤◌, [], ◌∷◌, ◌++◌, ap, ◌∙◌, arith, add-one}
use Rattle.std.specs.List.{AllByRecursion, range_with_len}
use Rattle.txn_types.specs.Rising.{IsRising}

range_grows : (a n : ℕ) → range_with_len a (suc n) ≡ range_with_len a n ++ (a + n) ∷ []
range_grows a zero = let e : a ≡ a + 0 = omega arith in ap (λ k. k ∷ []) e
range_grows a (suc n) = let e : (a + 1) + n ≡ a + suc n = omega arith in ap (λ l. a ∷ l) (range_grows (a + 1) n ∙ ap (λ k. range_with_len (a + 1) n ++ k ∷ []) e)

pub range_push : (a n : ℕ) → range_with_len a (n + 1) ≡ range_with_len a n ++ (a + n) ∷ []
range_push a n = ap (range_with_len a) (add-one n) ∙ range_grows a n

pub rising_range : (a n : ℕ) → IsRising (range_with_len a n)
rising_range a zero = tt
rising_range a (suc zero) = tt
rising_range a (suc (suc n)) = (omega arith, rising_range (a + 1) (suc n))

pub range_below : (a n high : ℕ) → a + n ≤ high → AllByRecursion (λ k. k < high) (range_with_len a n)
range_below a zero high h = tt
range_below a (suc n) high h = (omega arith, range_below (a + 1) n high (omega arith))
