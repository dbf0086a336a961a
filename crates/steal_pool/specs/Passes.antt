-- What workers keep of their passes.
use Rattle.std.specs.Prelude.{◌≡◌, ℕ, ◌+◌, ◌<◌, ◌↔◌, List, [], ◌∷◌, length}
use Rattle.std.specs.List.{All, Any}
use Rattle.board_core.specs.Counts.{times}
use Rattle.board_work.specs.PassStates.{Home, PassState, IsOf, IsFree}

-- a pass of this value that holds nothing
abbrev pub IsIdle : Home → PassState → Type 0
IsIdle h v = IsOf h v × IsFree v

-- the numbers are the same, and what was tried is still tried
pub record GoesOn (v w : PassState) : Type 0 where
  pub home : w.home ≡ v.home
  pub numbers : w.numbers ≡ v.numbers
  pub passes : w.passes ≡ v.passes
  pub tried : (x : ℕ) → 0 < times x v.tried → 0 < times x w.tried

-- the passes of so many workers: the first has number 0, and each of the others one more
pub record AreSplit {P : Type 0} (state : P → PassState) (home : Home) (first : PassState) (rest : List P) (count : ℕ) : Type 0 where
  pub idle : IsIdle home first
  pub passes : first.passes ≡ count
  pub number : first.numbers ≡ 0 ∷ []
  pub long : length rest + 1 ≡ count
  pub all : All (λ p. IsIdle home (state p)) rest
  pub numbers : (n : ℕ) → Any (λ p. 0 < times n (state p).numbers) rest ↔ ((0 < n) × (n < count))
