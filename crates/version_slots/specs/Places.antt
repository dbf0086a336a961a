-- Where a record is among those that a position writes.
use Rattle.std.specs.Prelude.{ℕ, suc, ◌==◌, List, [], ◌∷◌, Option, Some, None, if◌then◌else◌}

abbrev pub next_place : Option ℕ → Option ℕ
next_place (Some j) = Some (suc j)
next_place None = None

-- the first position of the record in the list
abbrev pub place_in : List ℕ → ℕ → Option ℕ
place_in [] r = None
place_in (w ∷ ws) r = if r == w then Some 0 else next_place (place_in ws r)
