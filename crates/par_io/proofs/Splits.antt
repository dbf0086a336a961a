-- A list that is passed over from the front.
use Rattle.std.proofs.Common.{◌≡◌, ◌≤◌, ◌-◌, ℕ, List, ◌++◌, length, take, drop, arith}
use Rattle.std.proofs.lemmas.Grind.{common_steps}

-- n more bytes are done, and the others are left
pub split_more : (done rest all : List ℕ) (n : ℕ) → n ≤ length rest → done ++ rest ≡ all
    → (done ++ take n rest) ++ take (length rest - n) (drop n rest) ≡ all
split_more done rest all n fits split = grind (arith, common_steps)
