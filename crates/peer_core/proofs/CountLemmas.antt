-- The peers of a table, in order.
use Rattle.std.specs.Prelude.{ℕ, zero, suc, ◌+◌, ◌≡◌, [], ◌∷◌, ◌++◌, map, length, refl}
use Rattle.std.proofs.Common.{◌∙◌, ap, arith}
use Rattle.txn_types.specs.Rising.{IsRising}
use Rattle.node_defs.specs.World.{count_from}

pub count_more : (a n : ℕ) → count_from a (suc n) ≡ count_from a n ++ (a + n) ∷ []
count_more a zero = let e : a ≡ a + 0 = omega arith in ap (λ k. k ∷ []) e
count_more a (suc n) = let e : suc a + n ≡ a + suc n = omega arith in ap (λ xs. a ∷ xs) (count_more (suc a) n ∙ ap (λ k. count_from (suc a) n ++ k ∷ []) e)

pub count_up : (n : ℕ) → count_from 0 (suc n) ≡ count_from 0 n ++ n ∷ []
count_up n = let e : 0 + n ≡ n = omega arith in count_more 0 n ∙ ap (λ k. count_from 0 n ++ k ∷ []) e

pub count_long : (a n : ℕ) → length (count_from a n) ≡ n
count_long a zero = refl
count_long a (suc n) = ap suc (count_long (suc a) n)

pub rises : (a n : ℕ) → IsRising (map (λ (x : ℕ). x) (count_from a n))
rises a zero = tt
rises a (suc zero) = tt
rises a (suc (suc n)) = (omega arith, rises (suc a) (suc n))
