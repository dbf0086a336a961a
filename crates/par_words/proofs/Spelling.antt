-- How a word that is an option is spelled.
use Rattle.std.proofs.Common.{◌≡◌, ◌∙◌, ℕ, ◌+◌, ◌==◌, Bool, true, false, cond, refl, ap, ap₂, [], ◌∷◌, ◌++◌, drop, Option, Some, None, suc, eqb-true, arith, option_map, option_and_then}
use Rattle.std.specs.List.{list_any, before_first, after_first, position_or_len}
use Rattle.par_words.specs.OptionUses.{Text, after_byte, name_and_value, option_in}

abbrev is_equals : ℕ → Bool
is_equals x = x == 61

-- what stands behind a name
abbrev pub behind : Option Text → Text
behind None = []
behind (Some value) = 61 ∷ value

-- the first place, one further on
further : (x : ℕ) (xs : Text) → (x == 61) ≡ false → position_or_len is_equals (x ∷ xs) ≡ suc (position_or_len is_equals xs)
further x xs other = rw other (omega arith)

behind_first : (x : ℕ) (xs : Text) (k : ℕ) → drop (suc k + 1) (x ∷ xs) ≡ drop (k + 1) xs
behind_first x xs k =
    let more : suc k + 1 ≡ suc (k + 1) = omega arith in
    rw more refl

-- a text is its name and what stands behind it
spelled : (text : Text) → text ≡ (name_and_value text).0 ++ behind (name_and_value text).1
spelled [] = refl
spelled (x ∷ xs) = go (x == 61) refl (spelled xs)
  where
    with_rest : (b : Bool) → xs ≡ before_first is_equals xs ++ behind (cond b (Some (after_first is_equals xs)) None)
        → x ∷ xs ≡ (x ∷ before_first is_equals xs) ++ behind (cond b (Some (drop (suc (position_or_len is_equals xs) + 1) (x ∷ xs))) None)
    with_rest true same = rw (behind_first x xs (position_or_len is_equals xs)) (ap (λ (t : Text). x ∷ t) same)
    with_rest false same = ap (λ (t : Text). x ∷ t) same

    go : (b : Bool) → (x == 61) ≡ b → xs ≡ (name_and_value xs).0 ++ behind (name_and_value xs).1
        → x ∷ xs ≡ (name_and_value (x ∷ xs)).0 ++ behind (name_and_value (x ∷ xs)).1
    go true is same = rw is (ap (λ (y : ℕ). y ∷ xs) (eqb-true x 61 is))
    go false is same = rw (further x xs is, is) (with_rest (list_any is_equals xs) same)

-- an option is two hyphens, its name and what stands behind that
pub option_spelled : (word : Text) (p : Text × Option Text) → option_in word ≡ Some p → word ≡ 45 ∷ 45 ∷ (p.0 ++ behind p.1)
option_spelled [] p is = cc
option_spelled (x ∷ []) p is = one (x == 45) is
  where
    one : (b : Bool) → option_map name_and_value (option_and_then (after_byte 45) (cond b (Some []) None)) ≡ Some p → x ∷ [] ≡ 45 ∷ 45 ∷ (p.0 ++ behind p.1)
    one true is = cc
    one false is = cc
option_spelled (x ∷ y ∷ text) p is = two (x == 45) refl (y == 45) refl is
  where
    two : (b : Bool) → (x == 45) ≡ b → (d : Bool) → (y == 45) ≡ d
        → option_map name_and_value (option_and_then (after_byte 45) (cond b (Some (y ∷ text)) None)) ≡ Some p → x ∷ y ∷ text ≡ 45 ∷ 45 ∷ (p.0 ++ behind p.1)
    two false first d second is = cc
    two true first false second is = absurd (none_is (rw second at is))
      where
        none_is : option_map name_and_value (cond false (Some text) None) ≡ Some p → ⊥
        none_is e = cc
    two true first true second is =
        let same : name_and_value text ≡ p = given (rw second at is) in
        ap₂ (λ (a b : ℕ). a ∷ b ∷ text) (eqb-true x 45 first) (eqb-true y 45 second) ∙ ap (λ (t : Text). 45 ∷ 45 ∷ t) (spelled text ∙ ap (λ (q : Text × Option Text). q.0 ++ behind q.1) same)
      where
        given : Some (name_and_value text) ≡ Some p → name_and_value text ≡ p
        given e = cc
