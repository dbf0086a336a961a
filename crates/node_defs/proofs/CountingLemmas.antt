-- Counting, entry by entry.
use Rattle.std.specs.Prelude.{ℕ, ◌+◌, Bool, cond, List, [], ◌∷◌, ◌++◌, Some, count_by, ◌≡◌, refl}
use Rattle.std.proofs.lemmas.List.Sums.{sum_by-cons}
use Rattle.node_defs.specs.Counting.{first_to_reach}

-- what has reached the count stays the first, whatever comes later
pub reached_stays : {A : Type 0} (same : A → A → Bool) (q : ℕ) (xs later : List A) (x : A) → first_to_reach same q xs ≡ Some x → first_to_reach same q (later ++ xs) ≡ Some x
reached_stays same q xs [] x h = h
reached_stays same q xs (y ∷ later) x h = rw (reached_stays same q xs later x h) refl

-- a count looks at the first, and at the rest
pub count_by-cons : {A : Type 0} (p : A → Bool) (y : A) (ys : List A) → count_by p (y ∷ ys) ≡ cond (p y) 1 0 + count_by p ys
count_by-cons p y ys = sum_by-cons (λ x. cond (p x) 1 0) y ys
