-- Keys that are numbers.
use Rattle.std.specs.Prelude.{ℕ, ◌==◌, ◌≡◌, List}
use Rattle.std.specs.Ordering.{eq_by_cmp, nat_cmp}
use Rattle.std.proofs.Common.{arith}
use Rattle.std.proofs.lemmas.Bool.Decides.{nat_tests}
use Rattle.keyed_lists.specs.Keyed.{list_at}

-- the order of numbers tells apart those that differ
pub same_number : (a b : ℕ) → eq_by_cmp nat_cmp a b ≡ (a == b)
same_number a b = grind (arith, nat_tests)

-- what stands at a number
pub list_at-number : {T : Type 0} (n : ℕ) (lists : List (ℕ × List T)) → list_at (eq_by_cmp nat_cmp n) lists ≡ list_at (λ k. n == k) lists
list_at-number n lists = λ i. list_at (λ k. same_number n k i) lists
