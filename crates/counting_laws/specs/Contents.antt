-- What entries carry.
use Rattle.std.specs.Prelude.{Bool, List, map, filter}

-- the contents of the entries that count
abbrev pub contents : {E A : Type 0} → (E → A) → (E → Bool) → List E → List A
contents content counts entries = map content (filter counts entries)
