-- The first content to reach a count, as a loop finds it that goes from the earliest entry on.
use Rattle.std.specs.Prelude.{ℕ, ◌==◌, ◌+◌, ◌<◌, ◌≢◌, Bool, true, false, ◌&&◌, cond, List, [], ◌∷◌, ◌++◌, map, reverse, length, take, drop, get_or, Some, None, count_by, filter, ◌≡◌, refl}
use Rattle.std.proofs.Common.{sym, ◌∙◌, ap, arith, eq-eqb, ne_eqb}
use Rattle.std.proofs.lemmas.Bool.{cond-true, cond-false}
use Rattle.std.proofs.lemmas.Simd.{map-map}
use Rattle.node_defs.specs.Counting.{first_to_reach}
use Rattle.counting_laws.specs.Contents.{contents}
use Rattle.node_defs.proofs.CountingLemmas.{reached_stays, count_by-cons}
use Rattle.counting_laws.proofs.Reversed.{reverse-take-more, reverse-front, count_by-reverse}

count_by-contents : {A B : Type 0} (f : A → B) (p : A → Bool) (q : B → Bool) (xs : List A) → count_by q (contents f p xs) ≡ count_by (λ x. p x && q (f x)) xs
count_by-contents f p q [] = refl
count_by-contents {A} {B} f p q (x ∷ xs) = one (p x) (count_by-contents f p q xs) ∙ sym (count_by-cons (λ y. p y && q (f y)) x xs)
  where
    one : (t : Bool) → count_by q (contents f p xs) ≡ count_by (λ y. p y && q (f y)) xs → count_by q (map f (cond t (x ∷ filter p xs) (filter p xs))) ≡ cond (t && q (f x)) 1 0 + count_by (λ y. p y && q (f y)) xs
    one true h = count_by-cons q (f x) (contents f p xs) ∙ ap (λ n. cond (q (f x)) 1 0 + n) h
    one false h = omega (arith, h)

contents-append : {A B : Type 0} (f : A → B) (p : A → Bool) (xs ys : List A) → contents f p (xs ++ ys) ≡ contents f p xs ++ contents f p ys
contents-append f p [] ys = refl
contents-append {A} {B} f p (x ∷ xs) ys = one (p x) (contents-append f p xs ys)
  where
    one : (b : Bool) → contents f p (xs ++ ys) ≡ contents f p xs ++ contents f p ys → map f (cond b (x ∷ filter p (xs ++ ys)) (filter p (xs ++ ys))) ≡ map f (cond b (x ∷ filter p xs) (filter p xs)) ++ contents f p ys
    one true h = ap (λ zs. f x ∷ zs) h
    one false h = h

-- an entry that counts
contents-yes : {A B : Type 0} (f : A → B) (p : A → Bool) (x : A) (xs : List A) → p x ≡ true → contents f p (x ∷ xs) ≡ f x ∷ contents f p xs
contents-yes f p x xs h = ap (map f) (cond-true (p x) (x ∷ filter p xs) (filter p xs) h)

-- an entry that doesn't
contents-no : {A B : Type 0} (f : A → B) (p : A → Bool) (x : A) (xs : List A) → p x ≡ false → contents f p (x ∷ xs) ≡ contents f p xs
contents-no f p x xs h = ap (map f) (cond-false (p x) (x ∷ filter p xs) (filter p xs) h)

-- where nothing was reached, one more that counts is looked at
reach_more : {A B : Type 0} (f : A → B) (p : A → Bool) (same : B → B → Bool) (q : ℕ) (x : A) (xs : List A) → p x ≡ true → first_to_reach same q (contents f p xs) ≡ None → first_to_reach same q (contents f p (x ∷ xs)) ≡ cond (count_by (same (f x)) (contents f p (x ∷ xs)) == q) (Some (f x)) None
reach_more f p same q x xs h none = rw (contents-yes f p x xs h) (rw none refl)

-- how often a content stands among the first entries, as it is counted from the earliest on
count_taken : {A B : Type 0} (f : A → B) (p : A → Bool) (test : B → Bool) (xs : List A) (i : ℕ) (x : A) → i < length xs → x ≡ get_or xs i x → count_by test (contents f p (x ∷ reverse (take i xs))) ≡ count_by (λ y. p y && test (f y)) (take (i + 1) xs)
count_taken f p test xs i x l e =
    ap (λ ys. count_by test (contents f p ys)) (sym (reverse-take-more xs i x l e))
    ∙ (count_by-contents f p test (reverse (take (i + 1) xs)) ∙ count_by-reverse (λ y. p y && test (f y)) (take (i + 1) xs))

-- an entry that completes no count leaves nothing reached
pub nothing_more : {A B : Type 0} (f : A → B) (p : A → Bool) (same : B → B → Bool) (q : ℕ) (xs : List A) (i : ℕ) (x : A) → i < length xs → x ≡ get_or xs i x → first_to_reach same q (contents f p (reverse (take i xs))) ≡ None → (p x ≡ true → count_by (λ y. p y && same (f x) (f y)) (take (i + 1) xs) ≢ q) → first_to_reach same q (contents f p (reverse (take (i + 1) xs))) ≡ None
nothing_more {A} {B} f p same q xs i x l e none few =
    ap (λ ys. first_to_reach same q (contents f p ys)) (reverse-take-more xs i x l e) ∙ one (p x) refl
  where
    one : (c : Bool) → p x ≡ c → first_to_reach same q (contents f p (x ∷ reverse (take i xs))) ≡ None
    one false h = ap (first_to_reach same q) (contents-no f p x (reverse (take i xs)) h) ∙ none
    one true h =
        reach_more f p same q x (reverse (take i xs)) h none
        ∙ cond-false (count_by (same (f x)) (contents f p (x ∷ reverse (take i xs))) == q) (Some (f x)) None
        (ne_eqb _ _ (λ full. few h (sym (count_taken f p (same (f x)) xs i x l e) ∙ full)))

-- an entry that completes the count is what is reached, whatever stands behind it
pub reached_here : {A B : Type 0} (f : A → B) (p : A → Bool) (same : B → B → Bool) (q : ℕ) (xs : List A) (i : ℕ) (x : A) → i < length xs → x ≡ get_or xs i x → first_to_reach same q (contents f p (reverse (take i xs))) ≡ None → p x ≡ true → count_by (λ y. p y && same (f x) (f y)) (take (i + 1) xs) ≡ q → first_to_reach same q (contents f p (reverse xs)) ≡ Some (f x)
reached_here f p same q xs i x l e none h full =
    let counted = eq-eqb _ _ (count_taken f p (same (f x)) xs i x l e ∙ full) in
    let now : first_to_reach same q (contents f p (reverse (take (i + 1) xs))) ≡ Some (f x) =
    ap (λ ys. first_to_reach same q (contents f p ys)) (reverse-take-more xs i x l e)
    ∙ (reach_more f p same q x (reverse (take i xs)) h none
    ∙ cond-true (count_by (same (f x)) (contents f p (x ∷ reverse (take i xs))) == q) (Some (f x)) None counted) in
    ap (λ ys. first_to_reach same q (contents f p ys)) (reverse-front xs (i + 1))
    ∙ (ap (first_to_reach same q) (contents-append f p (reverse (drop (i + 1) xs)) (reverse (take (i + 1) xs)))
    ∙ reached_stays same q (contents f p (reverse (take (i + 1) xs))) (contents f p (reverse (drop (i + 1) xs))) (f x) now)

-- a test of all contents
pub filter-map : {A B : Type 0} (f : A → B) (g : B → Bool) (xs : List A) → filter g (map f xs) ≡ contents f (λ x. g (f x)) xs
filter-map f g [] = refl
filter-map {A} {B} f g (x ∷ xs) = one (g (f x)) (filter-map f g xs)
  where
    one : (b : Bool) → filter g (map f xs) ≡ contents f (λ y. g (f y)) xs → cond b (f x ∷ filter g (map f xs)) (filter g (map f xs)) ≡ map f (cond b (x ∷ filter (λ y. g (f y)) xs) (filter (λ y. g (f y)) xs))
    one true h = ap (λ zs. f x ∷ zs) h
    one false h = h

-- two tests, one behind the other
pub filter-contents : {A B : Type 0} (f : A → B) (p : A → Bool) (g : B → Bool) (xs : List A) → filter g (contents f p xs) ≡ contents f (λ x. p x && g (f x)) xs
filter-contents f p g [] = refl
filter-contents {A} {B} f p g (x ∷ xs) = one (p x) (g (f x)) refl (filter-contents f p g xs)
  where
    one : (b c : Bool) → g (f x) ≡ c → filter g (contents f p xs) ≡ contents f (λ y. p y && g (f y)) xs → filter g (map f (cond b (x ∷ filter p xs) (filter p xs))) ≡ map f (cond (b && c) (x ∷ filter (λ y. p y && g (f y)) xs) (filter (λ y. p y && g (f y)) xs))
    one false c e h = h
    one true true e h = rw e (ap (λ zs. f x ∷ zs) h)
    one true false e h = rw e h

-- contents of contents
pub map-contents : {A B C : Type 0} (f : A → B) (g : B → C) (p : A → Bool) (xs : List A) → map g (contents f p xs) ≡ contents (λ x. g (f x)) p xs
map-contents f g p xs = map-map g f (filter p xs)
