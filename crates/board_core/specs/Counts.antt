-- Counts in lists, totals over passes, and sums below a number.
use Rattle.std.specs.Prelude.{ℕ, zero, suc, Bool, true, false, ◌==◌, ◌&&◌, ◌+◌, ◌⊎◌, ◌≡◌, List, [], ◌∷◌, if◌then◌else◌}
use Rattle.board_core.specs.declared.view.View.{View}

-- 1 where the numbers are the same
abbrev pub hit : ℕ → ℕ → ℕ
hit t x = if x == t then 1 else 0

-- how often t stands in the list
abbrev pub times : ℕ → List ℕ → ℕ
times t [] = 0
times t (x ∷ xs) = hit t x + times t xs

-- 1 where the pair is that of s and t
abbrev pub hit_pair : ℕ → ℕ → ℕ × ℕ → ℕ
hit_pair s t x = if (x.0 == s) && (x.1 == t) then 1 else 0

-- how often the pair stands in the list
abbrev pub times_pair : ℕ → ℕ → List (ℕ × ℕ) → ℕ
times_pair s t [] = 0
times_pair s t (x ∷ xs) = hit_pair s t x + times_pair s t xs

-- how many pairs begin with t
abbrev pub times_first : ℕ → List (ℕ × ℕ) → ℕ
times_first t [] = 0
times_first t (x ∷ xs) = hit t x.0 + times_first t xs

-- how many pairs end with s
abbrev pub times_second : ℕ → List (ℕ × ℕ) → ℕ
times_second s [] = 0
times_second s (x ∷ xs) = hit s x.1 + times_second s xs

-- f of each pass, added up
abbrev pub total : (View → ℕ) → List View → ℕ
total f [] = 0
total f (v ∷ vs) = f v + total f vs

-- f of each number below n, added up
abbrev pub below : ℕ → (ℕ → ℕ) → ℕ
below zero f = 0
below (suc n) f = below n f + f n

-- 1 for a number below n, else 0
abbrev pub once_below : ℕ → ℕ → ℕ
once_below n x = below n (hit x)

-- the list, with t where the test says so
abbrev pub noted : Bool → ℕ → List ℕ → List ℕ
noted true t xs = t ∷ xs
noted false t xs = xs

-- a position that was run: the position, the number of the pass, and the stamps at its begin and at its finish
abbrev pub Run : Type 0
Run = ℕ × ℕ × ℕ × ℕ

-- the run is in the list
abbrev pub IsAmong : Run → List Run → Type 0
IsAmong r [] = ⊥
IsAmong r (x ∷ xs) = (x ≡ r) ⊎ IsAmong r xs

-- how many runs are of t
abbrev pub times_run : ℕ → List Run → ℕ
times_run t [] = 0
times_run t (x ∷ xs) = hit t x.0 + times_run t xs
