-- Counting over lists that grow in front: the latest is first.
use Rattle.std.specs.Prelude.{ℕ, ◌==◌, Bool, if◌then◌else◌, List, [], ◌∷◌, Option, Some, None, count_by}
use Rattle.std.specs.List.{list_any}
use Rattle.std.specs.Option.{option_or}

-- of each sender the first
abbrev pub first_of_each : {A : Type 0} → List (ℕ × A) → List (ℕ × A)
first_of_each [] = []
first_of_each (x ∷ before) = if list_any (λ y. y.0 == x.0) before then first_of_each before else x ∷ first_of_each before

-- the first that is q times
abbrev pub first_to_reach : {A : Type 0} → (A → A → Bool) → ℕ → List A → Option A
first_to_reach same q [] = None
first_to_reach same q (x ∷ before) = option_or (first_to_reach same q before) (if count_by (same x) (x ∷ before) == q then Some x else None)
