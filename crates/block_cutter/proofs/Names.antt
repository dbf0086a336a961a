-- Names are compared byte by byte.
use Rattle.std.proofs.Common.{◌≡◌, ℕ, List, [], ◌∷◌, ◌&&◌, eqb, refl, ap}
use Rattle.std.specs.Cmp.Lexicographic.{pointwise}
use Rattle.node_defs.specs.Same.{same_list, same_number}

pub pointwise_same : (xs ys : List ℕ) → pointwise eqb xs ys ≡ same_list same_number xs ys
pointwise_same [] [] = refl
pointwise_same [] (y ∷ ys) = refl
pointwise_same (x ∷ xs) [] = refl
pointwise_same (x ∷ xs) (y ∷ ys) = ap (λ b. eqb x y && b) (pointwise_same xs ys)
