-- A sorted list is determined by its members.
use Rattle.std.proofs.Common.{◌≡◌, ◌⊎◌, inl, inr, ◌↔◌, zero, suc, List, [], ◌∷◌, Contains, refl, sym, ap, ◌∙◌, subst, arith}
use Rattle.std.specs.List.{All}
use Rattle.std.proofs.lemmas.List.Elements.{All-contains, Contains-get_or}

-- each is below all that stand behind it
abbrev pub SortedBy : {X : Type 0} → (X → X → Type 0) → List X → Type 0
SortedBy lt [] = Unit {0}
SortedBy lt (x ∷ rest) = All (lt x) rest × SortedBy lt rest

-- one is not below the other and the other below it
abbrev pub IsAsymmetric : {X : Type 0} → (X → X → Type 0) → Type 0
IsAsymmetric {X} lt = (x y : X) → lt x y → ¬ lt y x

-- ---- members

pub first_there : {X : Type 0} (x : X) (xs : List X) → Contains (x ∷ xs) x
first_there x xs = (0, omega arith, refl)

pub later_there : {X : Type 0} (x : X) (xs : List X) (y : X) → Contains xs y → Contains (x ∷ xs) y
later_there x xs y h = (suc h.0, omega (arith, h.1), h.2)

pub there_cases : {X : Type 0} (x : X) (xs : List X) (y : X) → Contains (x ∷ xs) y → (x ≡ y) ⊎ Contains xs y
there_cases x xs y (zero, h, is) = inl is
there_cases x xs y (suc i, h, is) = inr (i, omega (arith, h), is)

pub none_there : {X : Type 0} (y : X) → ¬ Contains [] y
none_there y = λ h. absurd (omega (arith, h.1))

-- what each member has, each element has
pub all_of : {X : Type 0} (P : X → Type 0) (xs : List X) → ((x : X) → Contains xs x → P x) → All P xs
all_of P xs h = λ k d lt. h _ (Contains-get_or xs k d lt)

-- ---- the same members in the same order

same_first : {X : Type 0} (lt : X → X → Type 0) → IsAsymmetric lt → (x y : X) (xs ys : List X) → SortedBy lt (x ∷ xs) → SortedBy lt (y ∷ ys) → Contains (y ∷ ys) x → Contains (x ∷ xs) y → x ≡ y
same_first lt asymmetric x y xs ys left right a b = by_place (there_cases y ys x a) (there_cases x xs y b)
  where
    by_place : (y ≡ x) ⊎ Contains ys x → (x ≡ y) ⊎ Contains xs y → x ≡ y
    by_place (inl e) _ = sym e
    by_place (inr h) (inl e) = e
    by_place (inr h) (inr k) = absurd (asymmetric x y (All-contains (lt x) xs y left.0 k) (All-contains (lt y) ys x right.0 h))

same_rest : {X : Type 0} (lt : X → X → Type 0) → IsAsymmetric lt → (x : X) (xs ys : List X) (z : X) → All (lt x) xs → Contains xs z → Contains (x ∷ ys) z → Contains ys z
same_rest lt asymmetric x xs ys z above h found = by_place (there_cases x ys z found)
  where
    by_place : (x ≡ z) ⊎ Contains ys z → Contains ys z
    by_place (inl e) = let itself : lt z z = subst (λ (a : _). lt a z) e (All-contains (lt x) xs z above h) in absurd (asymmetric z z itself itself)
    by_place (inr k) = k

-- two sorted lists with the same members are one list
pub sorted_once : {X : Type 0} (lt : X → X → Type 0) → IsAsymmetric lt → (xs ys : List X) → SortedBy lt xs → SortedBy lt ys → ((x : X) → Contains xs x ↔ Contains ys x) → xs ≡ ys
sorted_once lt asymmetric [] [] left right same = refl
sorted_once lt asymmetric [] (y ∷ ys) left right same = absurd (none_there y ((same y).1 (first_there y ys)))
sorted_once lt asymmetric (x ∷ xs) [] left right same = absurd (none_there x ((same x).0 (first_there x xs)))
sorted_once lt asymmetric (x ∷ xs) (y ∷ ys) left right same =
    let first = same_first lt asymmetric x y xs ys left right ((same x).0 (first_there x xs)) ((same y).1 (first_there y ys)) in
    let moved : SortedBy lt (x ∷ ys) = subst (λ (a : _). SortedBy lt (a ∷ ys)) (sym first) right in
    let here : (z : _) → Contains (x ∷ xs) z ↔ Contains (x ∷ ys) z = λ z. subst (λ (a : _). Contains (x ∷ xs) z ↔ Contains (a ∷ ys) z) (sym first) (same z) in
    let rest = sorted_once lt asymmetric xs ys left.1 right.1 (λ z. (
      λ h. same_rest lt asymmetric x xs ys z left.0 h ((here z).0 (later_there x xs z h)),
      λ h. same_rest lt asymmetric x ys xs z moved.0 h ((here z).1 (later_there x ys z h)),
    )) in
    ap (λ (a : _). a ∷ xs) first ∙ ap (λ (r : _). y ∷ r) rest
