-- The state: a finite map from records to numbers from 1 on. A record that it lacks has the value 0.
use Rattle.std.specs.Prelude.{ℕ, Bool, false, ◌||◌, ◌==◌, List, [], ◌∷◌, Some, unwrap_or, if◌then◌else◌, ◌≡◌, ◌≤◌, ◌<◌}
use Rattle.std.specs.Ordering.{nat_cmp}
use Rattle.std.specs.FinMap as map
use Rattle.txn_types.specs.Values.{max_value}

abbrev pub State : Type 0
State = map.FinMap nat_cmp ℕ

abbrev pub value_in : State → ℕ → ℕ
value_in s r = unwrap_or (map.get s r) 0

-- s with the value v at r
abbrev pub put : State → ℕ → ℕ → State
put s r v = if v == 0 then map.remove s r else map.insert s r v

-- each value of s is from 1 to the largest
pub record IsState (s : State) : Type 0 where
  pub in_range : (r v : ℕ) → map.get s r ≡ Some v → (0 < v) × (v ≤ max_value)

abbrev pub contains : List ℕ → ℕ → Bool
contains [] r = false
contains (q ∷ rest) r = (r == q) || contains rest r
