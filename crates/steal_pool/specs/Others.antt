-- Of each item of a list a part of its own, and the parts of all others.
use Rattle.std.specs.Prelude.{◌≡◌, ◌<◌, ℕ, zero, suc, List, [], ◌∷◌, map, get_or}

-- the items but that at a position
abbrev pub without_place : {A : Type 0} → ℕ → List A → List A
without_place k [] = []
without_place zero (x ∷ xs) = xs
without_place (suc k) (x ∷ xs) = x ∷ without_place k xs

-- each of the first n items has the parts of all others, in their order, and not its own
abbrev pub HaveOthers : {X A : Type 0} → (X → A) → (X → List A) → List X → ℕ → Type 0
HaveOthers own others xs n = (k : ℕ) → k < n → get_or (map others xs) k [] ≡ without_place k (map own xs)
