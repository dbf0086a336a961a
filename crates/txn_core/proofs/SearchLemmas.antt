-- A search in a list that rises.
use Rattle.std.proofs.Common.{◌≡◌, ◌<◌, ◌≤◌, ◌||◌, ℕ, zero, suc, true, false, List, [], ◌∷◌, length, get_or, Result, Ok, Err, MatchResult, inl, inr, refl, sym, ap, ◌∙◌, arith}
use Rattle.std.specs.Result.{is_ok}
use Rattle.std.specs.Ordering.{nat_cmp}
use Rattle.std.specs.List.Sorted.{IsBinarySearchResult}
use Rattle.std.proofs.lemmas.Bool.{cases_lt, eq-eqb, ne_eqb, or_right}
use Rattle.std.proofs.lemmas.List.Sorted.{searched}
use Rattle.txn_types.specs.Rising.{IsRising}
use Rattle.oxii_defs.specs.State.{contains}

rising_le : (xs : List ℕ) → IsRising xs → (i j : ℕ) → i ≤ j → j < length xs → get_or xs i 0 ≤ get_or xs j 0
rising_le [] rising i j le lt = absurd (omega arith)
rising_le (x ∷ []) rising zero zero le lt = omega arith
rising_le (x ∷ []) rising zero (suc j) le lt = absurd (omega arith)
rising_le (x ∷ []) rising (suc i) zero le lt = absurd (omega arith)
rising_le (x ∷ []) rising (suc i) (suc j) le lt = absurd (omega arith)
rising_le (x ∷ y ∷ rest) rising zero zero le lt = omega arith
rising_le (x ∷ y ∷ rest) rising zero (suc j) le lt = omega (arith, rising.0, rising_le (y ∷ rest) rising.1 0 j (omega arith) (omega arith))
rising_le (x ∷ y ∷ rest) rising (suc i) zero le lt = absurd (omega arith)
rising_le (x ∷ y ∷ rest) rising (suc i) (suc j) le lt = rising_le (y ∷ rest) rising.1 i j (omega arith) (omega arith)

stands_at : (xs : List ℕ) (s i : ℕ) → i < length xs → get_or xs i 0 ≡ s → contains xs s ≡ true
stands_at [] s i lt is = absurd (omega arith)
stands_at (x ∷ xs) s zero lt is = ap (λ b. b || contains xs s) (eq-eqb s x (sym is))
stands_at (x ∷ xs) s (suc i) lt is = or_right _ _ (stands_at xs s i (omega arith) is)

stands_nowhere : (xs : List ℕ) (s : ℕ) → ((k : ℕ) → k < length xs → get_or xs k 0 ≡ s → ⊥) → contains xs s ≡ false
stands_nowhere [] s none = refl
stands_nowhere (x ∷ xs) s none =
    ap (λ b. b || contains xs s) (ne_eqb s x (λ e. none 0 (omega arith) (sym e))) ∙ stands_nowhere xs s (λ k lt is. none (suc k) (omega (arith, lt)) is)

-- what a search finds is what the list contains
pub searched_is : (xs : List ℕ) (s : ℕ) (r : Result ℕ ℕ) → IsRising xs → IsBinarySearchResult (λ y. nat_cmp y s) xs r → is_ok r ≡ contains xs s
searched_is xs s r rising answer = here r (searched xs s r answer (rising_le xs rising))
  where
    here : (r : Result ℕ ℕ) → MatchResult r (λ i. (i < length xs) × (get_or xs i 0 ≡ s)) (λ i. (i ≤ length xs) × ((k : ℕ) → k < i → get_or xs k 0 < s) × ((k : ℕ) → i ≤ k → k < length xs → s < get_or xs k 0))
        → is_ok r ≡ contains xs s
    here (Ok i) at = sym (stands_at xs s i at.0 at.1)
    here (Err i) at = sym (stands_nowhere xs s (λ k lt is. elim (cases_lt k i) [
      | inl before ↦ absurd (omega (arith, is, at.1 k before))
      | inr from ↦ absurd (omega (arith, is, at.2 k from lt))
    ]))
