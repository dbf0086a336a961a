-- Lists of names: whether one is among them, without repeats, and in the order of their bytes.
use Rattle.std.specs.Prelude.{List, [], ◌∷◌, Contains, ◌≡◌, Bool, false, ◌||◌, nat_eq}
use Rattle.std.specs.Ordering.{nat_cmp}
use Rattle.std.specs.declared.cmp.Ordering.TheVariants.{Less}
use Rattle.std.specs.Cmp.Lexicographic.{slice_cmp, pointwise}
use Rattle.oxii_defs.specs.Syntax.{Name}

abbrev pub AllDiffer : List Name → Type 0
AllDiffer [] = Unit {0}
AllDiffer (x ∷ rest) = (¬ Contains rest x) × AllDiffer rest

-- the names are in the order of their bytes, each once
abbrev pub AreInOrder : List Name → Type 0
AreInOrder [] = Unit {0}
AreInOrder (x ∷ []) = Unit {0}
AreInOrder (x ∷ y ∷ rest) = (slice_cmp nat_cmp x y ≡ Less) × AreInOrder (y ∷ rest)

abbrev pub is_named : List Name → Name → Bool
is_named [] name = false
is_named (x ∷ rest) name = pointwise nat_eq x name || is_named rest name
