-- All that a block's runs and votes give, found in rounds.
use Rattle.std.specs.Prelude.{ℕ, zero, suc, ◌≡◌, ◌<◌, Bool, true, not, ◌&&◌, if◌then◌else◌, List, [], ◌∷◌, ◌++◌, length, get_or, set, take, count_by, Option, Some, None, is_some}
use Rattle.txn_types.specs.declared.txn.Outcome.{Outcome}
use Rattle.known_defs.specs.Known.{txn_at, knows_all}
use Rattle.board_defs.specs.Closure.{Plan, is_own, run_of}

-- what is given to t, where this is known of the positions before it: its own outcome, or what is agreed
abbrev pub given_by : Plan → Option Outcome → ℕ → List (Option Outcome) → Option Outcome
given_by plan agreed t earlier =
    if knows_all plan.table.kind (txn_at plan.txns t) plan.txns earlier
    then (if is_own plan t then Some (run_of plan t earlier) else agreed)
    else None

-- what is given to the first t positions; the plan's known outcomes play no part
abbrev pub found_by : Plan → List (Option Outcome) → ℕ → List (Option Outcome)
found_by plan agreed zero = []
found_by plan agreed (suc t) = found_by plan agreed t ++ given_by plan (get_or agreed t None) t (found_by plan agreed t) ∷ []

-- what is known is what is given
abbrev pub IsSound : Plan → List (Option Outcome) → List (Option Outcome) → Type 0
IsSound plan agreed xs = (t : ℕ) (o : Outcome) → get_or xs t None ≡ Some o → get_or (found_by plan agreed (length plan.txns)) t None ≡ Some o

-- of the first n positions that are such, what is given is known
abbrev pub HasGiven : (ℕ → Bool) → Plan → List (Option Outcome) → List (Option Outcome) → ℕ → Type 0
HasGiven test plan agreed xs n = (t : ℕ) (o : Outcome) → t < n → test t ≡ true → given_by plan (get_or agreed t None) t (take t xs) ≡ Some o → get_or xs t None ≡ Some o

-- how many positions aren't known
abbrev pub unknown : List (Option Outcome) → ℕ
unknown xs = count_by (λ x. not (is_some x)) xs

-- what was known is known
abbrev pub IsKept : List (Option Outcome) → List (Option Outcome) → Type 0
IsKept before after = (t : ℕ) (o : Outcome) → get_or before t None ≡ Some o → get_or after t None ≡ Some o

-- position t isn't known, and there is an outcome for it
abbrev pub is_new : List (Option Outcome) → ℕ → Option Outcome → Bool
is_new xs t y = not (is_some (get_or xs t None)) && is_some y

-- and is learnt so
abbrev pub learned : List (Option Outcome) → ℕ → Option Outcome → List (Option Outcome)
learned xs t y = if is_new xs t y then set xs t y else xs

-- what others' votes offer to t
abbrev pub offered : Plan → List (Option Outcome) → ℕ → List (Option Outcome) → Option Outcome
offered plan agreed t xs = if is_own plan t then None else given_by plan (get_or agreed t None) t (take t xs)
