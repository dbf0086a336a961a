-- Laws of counting, over lists with the latest first.
use Rattle.std.specs.Prelude.{ℕ, ◌==◌, ◌≡◌, Bool, List, ◌++◌, Some}
use Rattle.std.specs.List.{list_any}
use Rattle.node_defs.specs.Counting.{first_of_each, first_to_reach}

-- a sender is among the first of each exactly where it is in the list
abbrev pub SendersStay : Type 0 → Type 0
SendersStay A = (s : ℕ) (xs : List (ℕ × A)) → list_any (λ y. y.0 == s) (first_of_each xs) ≡ list_any (λ y. y.0 == s) xs

-- what has reached the count first stays the first
abbrev pub ReachedStays : Type 0 → Type 0
ReachedStays A =
    (same : A → A → Bool) (q : ℕ) (xs later : List A) (x : A) →
    first_to_reach same q xs ≡ Some x → first_to_reach same q (later ++ xs) ≡ Some x
