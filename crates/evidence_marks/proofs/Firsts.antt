-- What is kept of a sender is among what it said.
use Rattle.std.specs.Prelude.{ℕ, ◌==◌, ◌≡◌, Bool, true, false, ◌&&◌, ◌||◌, cond, List, [], ◌∷◌, map, reverse, Some, is_some, refl}
use Rattle.std.specs.List.{find, list_any}
use Rattle.std.proofs.Common.{sym, ◌∙◌, ap}
use Rattle.std.proofs.lemmas.Option.{none-some, same_Some}
use Rattle.std.proofs.lemmas.List.{reverse-append}
use Rattle.std.proofs.lemmas.List.Folds.{list_any-append}
use Rattle.node_defs.specs.Counting.{first_of_each}
use Rattle.evidence_marks.proofs.Sayings.{says}

-- a test that passes somewhere finds something
pub found_is : {E : Type 0} (q : E → Bool) (es : List E) → list_any q es ≡ is_some (find q es)
found_is q [] = refl
found_is q (e ∷ es) = one (q e) (found_is q es)
  where
    one : (b : Bool) → list_any q es ≡ is_some (find q es) → (b || list_any q es) ≡ is_some (cond b (Some e) (find q es))
    one true h = refl
    one false h = h

swapped : (a b : Bool) → (a || (b || false)) ≡ (b || a)
swapped true true = refl
swapped true false = refl
swapped false true = refl
swapped false false = refl

any_reverse : {E : Type 0} (q : E → Bool) (es : List E) → list_any q (reverse es) ≡ list_any q es
any_reverse q [] = refl
any_reverse q (e ∷ es) =
    ap (list_any q) (reverse-append (e ∷ []) es) ∙ (list_any-append q (reverse es) (e ∷ []) ∙ (ap (λ b. b || (q e || false)) (any_reverse q es) ∙ swapped (list_any q es) (q e)))

any_map : {E A : Type 0} (f : E → A) (q : A → Bool) (es : List E) → list_any q (map f es) ≡ list_any (λ e. q (f e)) es
any_map f q [] = refl
any_map f q (e ∷ es) = ap (λ b. q (f e) || b) (any_map f q es)

-- what passes among the first of each sender passes among all
any_first : {A : Type 0} (q : ℕ × A → Bool) (xs : List (ℕ × A)) → list_any q (first_of_each xs) ≡ true → list_any q xs ≡ true
any_first q [] h = h
any_first {A} q (x ∷ xs) h = one (list_any (λ y. y.0 == x.0) xs) h (any_first q xs)
  where
    rest : (b : Bool) → list_any q xs ≡ true → (b || list_any q xs) ≡ true
    rest true k = refl
    rest false k = k

    two : (b : Bool) → (b || list_any q (first_of_each xs)) ≡ true → (list_any q (first_of_each xs) ≡ true → list_any q xs ≡ true) → (b || list_any q xs) ≡ true
    two true k more = refl
    two false k more = more k

    one : (b : Bool) → list_any q (cond b (first_of_each xs) (x ∷ first_of_each xs)) ≡ true → (list_any q (first_of_each xs) ≡ true → list_any q xs ≡ true) → (q x || list_any q xs) ≡ true
    one true k more = rest (q x) (more k)
    one false k more = two (q x) k more

module _ {A : Type 0} (same : A → A → Bool) (itself : (x : A) → same x x ≡ true) where
  found_says : {E : Type 0} (pair : E → ℕ × A) (p : ℕ) (e : E) (es : List E) → find (λ z. (pair z).0 == p) es ≡ Some e → list_any (λ z. ((pair z).0 == p) && same (pair e).1 (pair z).1) es ≡ true
  found_says pair p e [] h = absurd (none-some e h)
  found_says {E} pair p e (z ∷ zs) h = one ((pair z).0 == p) h (λ k. found_says pair p e zs k)
    where
      one : (b : Bool) → cond b (Some z) (find (λ z. (pair z).0 == p) zs) ≡ Some e → (find (λ z. (pair z).0 == p) zs ≡ Some e → list_any (λ z. ((pair z).0 == p) && same (pair e).1 (pair z).1) zs ≡ true) → ((b && same (pair e).1 (pair z).1) || list_any (λ z. ((pair z).0 == p) && same (pair e).1 (pair z).1) zs) ≡ true
      one true k more = ap (λ b. b || list_any (λ z. ((pair z).0 == p) && same (pair e).1 (pair z).1) zs) (ap (λ (y : E). same (pair y).1 (pair z).1) (sym (same_Some z e k)) ∙ itself (pair z).1)
      one false k more = more k

  -- kept entries are the first of each sender: the one that is found of p carries what p said
  pub says_kept : {E : Type 0} (pair : E → ℕ × A) (p : ℕ) (e : E) (es : List E) (xs : List (ℕ × A)) → find (λ z. (pair z).0 == p) es ≡ Some e → map pair (reverse es) ≡ first_of_each xs → says same p (pair e).1 xs ≡ true
  says_kept pair p e es xs h k =
      let q : ℕ × A → Bool = λ y. (y.0 == p) && same (pair e).1 y.1 in
      any_first q xs (ap (list_any q) (sym k) ∙ (any_map pair q (reverse es) ∙ (any_reverse (λ z. q (pair z)) es ∙ found_says pair p e es h)))
