-- The items of a list but one, an item at a time.
use Rattle.std.proofs.Common.{◌≡◌, ◌≢◌, ℕ, zero, suc, ◌<◌, ◌+◌, ◌∙◌, ◌++◌, List, [], ◌∷◌, take, length, map, set, get_or, refl, ap, sym, subst, arith, get_or-set_same, get_or-set_other}
use mathlib.Core.Logic.{dite}
use native.Mathlib.Decide.{ℕ_discrete}
use Rattle.std.proofs.lemmas.List.{length-map, map-append, map-set}
use Rattle.steal_pool.specs.Others.{without_place, HaveOthers}

take_more : {A : Type 0} (n : ℕ) (xs : List A) (x : A) → n < length xs → get_or xs n x ≡ x → take (suc n) xs ≡ take n xs ++ x ∷ []
take_more n [] x l at = absurd (omega arith)
take_more zero (y ∷ ys) x l at = ap (λ z. z ∷ []) at
take_more (suc n) (y ∷ ys) x l at = ap (λ zs. y ∷ zs) (take_more n ys x (omega arith) at)

-- an item at another place comes last
without_more : {A : Type 0} (k n : ℕ) (xs : List A) (x : A) → n < length xs → get_or xs n x ≡ x → n ≢ k → without_place k (take (suc n) xs) ≡ without_place k (take n xs) ++ x ∷ []
without_more k n [] x l at ne = absurd (omega arith)
without_more zero zero (y ∷ ys) x l at ne = absurd (ne refl)
without_more zero (suc n) (y ∷ ys) x l at ne = take_more n ys x (omega arith) at
without_more (suc k) zero (y ∷ ys) x l at ne = ap (λ z. z ∷ []) at
without_more (suc k) (suc n) (y ∷ ys) x l at ne = ap (λ zs. y ∷ zs) (without_more k n ys x (omega arith) at (λ e. ne (ap suc e)))

-- that at the place is left out
without_there : {A : Type 0} (k : ℕ) (xs : List A) → without_place k (take (suc k) xs) ≡ without_place k (take k xs)
without_there zero [] = refl
without_there (suc k) [] = refl
without_there zero (y ∷ ys) = refl
without_there (suc k) (y ∷ ys) = ap (λ zs. y ∷ zs) (without_there k ys)

map_at : {X A : Type 0} (f : X → A) (xs : List X) (n : ℕ) (d : X) → get_or (map f xs) n (f d) ≡ f (get_or xs n d)
map_at f [] n d = refl
map_at f (y ∷ ys) zero d = refl
map_at f (y ∷ ys) (suc n) d = map_at f ys n d

-- a part that is pushed is that of one item more, and none is pushed at the place itself
module _ {X T A : Type 0} (own : X → A) (part : T → A) (k n : ℕ) (xs : List X) (ts ts' : List T) (before : map part ts ≡ without_place k (take n (map own xs))) where
  pub push_other : (x : X) (t : T) → n < length xs → x ≡ get_or xs n x → n ≢ k → ts' ≡ ts ++ t ∷ [] → part t ≡ own (get_or xs n x) → map part ts' ≡ without_place k (take (n + 1) (map own xs))
  push_other x t l at ne pushed is =
      let long = length-map xs own in
      ap (map part) pushed ∙ (map-append part ts (t ∷ []) ∙ ((λ i. before i ++ (is ∙ ap own (sym at)) i ∷ [])
      ∙ (sym (without_more k n (map own xs) (own x) (omega arith) (map_at own xs n x ∙ ap own (sym at)) ne) ∙ ap (λ m. without_place k (take m (map own xs))) {x = suc n} {y = n + 1} (omega arith))))

  pub skip_other : n ≡ k → ts' ≡ ts → map part ts' ≡ without_place k (take (n + 1) (map own xs))
  skip_other e same = ap (map part) same ∙ (before ∙ (subst (λ z. without_place z (take n (map own xs)) ≡ without_place z (take (suc n) (map own xs))) e (sym (without_there n (map own xs)))
      ∙ ap (λ m. without_place k (take m (map own xs))) {x = suc n} {y = n + 1} (omega arith)))

-- a list in which one item is set to one with the same part
own_kept : {X A : Type 0} (own : X → A) (xs : List X) (w : ℕ) (x y : X) → w < length xs → x ≡ get_or xs w x → own y ≡ own x → map own (set xs w y) ≡ map own xs
own_kept own [] w x y l at same = absurd (omega arith)
own_kept own (z ∷ zs) zero x y l at same = ap (λ a. a ∷ map own zs) (same ∙ ap own at)
own_kept own (z ∷ zs) (suc w) x y l at same = ap (λ zs'. own z ∷ zs') (own_kept own zs w x y (omega arith) at same)

-- one more has, where it is given them
pub others_more : {X A : Type 0} (own : X → A) (others : X → List A) (xs : List X) (w : ℕ) (x y : X) → w < length xs → x ≡ get_or xs w x → own y ≡ own x → others y ≡ without_place w (map own xs) → HaveOthers own others xs w → HaveOthers own others (set xs w y) (w + 1)
others_more own others xs w x y l at same given before k lk =
    let owns = own_kept own xs w x y l at same in
    let long = length-map xs others in
    ap (λ zs. get_or zs k []) (map-set others xs w y) ∙ (dite (ℕ_discrete k w)
    (λ e. subst (λ z. get_or (set (map others xs) w (others y)) z [] ≡ without_place z (map own xs)) (sym e) (get_or-set_same (map others xs) w (others y) [] (omega arith) ∙ given))
    (λ ne. get_or-set_other (map others xs) w k (others y) [] ne ∙ before k (omega arith))
    ∙ sym (ap (without_place k) owns))
