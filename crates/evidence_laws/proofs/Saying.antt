-- Who always says one thing says no two.
use Rattle.std.specs.Prelude.{ℕ, ◌==◌, ◌≡◌, Bool, true, false, ◌&&◌, ◌||◌, not, List, [], ◌∷◌, refl}
use Rattle.std.specs.List.{AllByRecursion}
use Rattle.std.proofs.Common.{sym, ◌∙◌, ap}
use Rattle.evidence_marks.specs.Evidence.{says_other, says_two}

-- all that who says here is c
abbrev pub SaysOnly : {A : Type 0} → ℕ → A → List (ℕ × A) → Type 0
SaysOnly who c said = AllByRecursion (λ y. (y.0 == who) ≡ true → y.1 ≡ c) said

module _ {A : Type 0} (same : A → A → Bool) (itself : (x : A) → same x x ≡ true) (who : ℕ) (c : A) where
  no_other : (x : A) (xs : List (ℕ × A)) → x ≡ c → SaysOnly who c xs → says_other same who x xs ≡ false
  no_other x [] e a = refl
  no_other x (y ∷ ys) e a = one (y.0 == who) refl (no_other x ys e a.1)
    where
      one : (b : Bool) → (y.0 == who) ≡ b → says_other same who x ys ≡ false → ((b && not (same x y.1)) || says_other same who x ys) ≡ false
      one false q more = more
      one true q more = ap (λ z. not z || says_other same who x ys) (ap (same x) (a.0 q ∙ sym e) ∙ itself x) ∙ more

  pub no_two : (xs : List (ℕ × A)) → SaysOnly who c xs → says_two same who xs ≡ false
  no_two [] a = refl
  no_two (x ∷ xs) a = one (x.0 == who) refl (no_two xs a.1)
    where
      one : (b : Bool) → (x.0 == who) ≡ b → says_two same who xs ≡ false → ((b && says_other same who x.1 xs) || says_two same who xs) ≡ false
      one false q more = more
      one true q more = ap (λ z. z || says_two same who xs) (no_other x.1 xs (a.0 q) a.1) ∙ more
