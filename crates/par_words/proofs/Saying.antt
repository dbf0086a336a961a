-- An option and its number, against what words give.
use Rattle.std.proofs.Common.{◌≡◌, ◌∙◌, ℕ, ◌<◌, ◌^◌, inl, inr, Bool, true, false, refl, sym, ap, ap₂, subst, List, [], ◌∷◌, ◌++◌, append-nil, Option, Some, None, arith, codes}
use Rattle.std.specs.Prelude.{decimal}
use Rattle.std.specs.List.{list_all}
use Rattle.std.specs.Char.{is_ascii_digit}
use Rattle.std.proofs.lemmas.Fmt.{decimal_injective}
use Rattle.std.proofs.lemmas.Grind.{common_steps}
use Rattle.std.proofs.lemmas.Bool.Decides.{nat_tests}
use Rattle.par_words.specs.Words.{BeginWith}
use Rattle.par_words.specs.OptionUses.{Text, Options, Use, begins_with_hyphen, is_given, option_in, option_named}
use Rattle.par_words.specs.CommandOptions.{value_in}
use Rattle.par_words.proofs.Numbers.{decimal_digits}
use Rattle.par_words.proofs.Spelling.{option_spelled}
use Rattle.par_words.proofs.Gives.{Gives, give_words, give_joined, no_value, not_given}

-- a number of these that an option was given, or none
abbrev pub IsValue : (ℕ → Type 0) → Option Text → Option ℕ → Type 0
IsValue In None None = Unit {0}
IsValue In (Some text) (Some n) = In n × (text ≡ decimal n)
IsValue In None (Some n) = ⊥
IsValue In (Some text) None = ⊥

-- an option with no number isn't given
pub absent : (In : ℕ → Type 0) (uses : List Use) (name : Text) → IsValue In (value_in uses name) None → is_given uses name ≡ false
absent In uses name value = go (value_in uses name) refl value
  where
    go : (o : Option Text) → value_in uses name ≡ o → IsValue In o None → is_given uses name ≡ false
    go None is value = not_given uses name is
    go (Some text) is value = absurd value

-- and one that isn't given has no number
pub without : (In : ℕ → Type 0) (uses : List Use) (name : Text) → is_given uses name ≡ false → IsValue In (value_in uses name) None
without In uses name once = subst (λ (o : Option Text). IsValue In o None) (sym (no_value uses name once)) tt

digits_behind : (text : Text) → list_all is_ascii_digit text ≡ true → begins_with_hyphen text ≡ false
digits_behind [] e = refl
digits_behind (c ∷ cs) e = grind (arith, nat_tests, common_steps)

-- FROM WHAT IS SAID

-- words that begin with an option and its number give it
pub numbered : (os : Options) (name option : Text) (n : ℕ) (rest words : List Text) (uses : List Use) → option_in option ≡ Some (name, None)
    → ((value : Text) → option_in (option ++ (codes "=" ++ value)) ≡ Some (name, Some value)) → option_named os name ≡ Some (name, true) → n < 2 ^ 64
    → BeginWith option n rest words → is_given uses name ≡ false → Gives os rest uses → Gives os words ((name, decimal n) ∷ uses)
numbered os name option n rest words uses spelled joined named small (inl is) once gives =
    subst (λ (ws : List Text). Gives os ws ((name, decimal n) ∷ uses)) (sym is)
    (give_words option name (decimal n) rest uses spelled named (digits_behind (decimal n) (decimal_digits n small)) once gives)
numbered os name option n rest words uses spelled joined named small (inr is) once gives =
    subst (λ (ws : List Text). Gives os ws ((name, decimal n) ∷ uses)) (sym is)
    (give_joined (option ++ (codes "=" ++ decimal n)) name (decimal n) rest uses (joined (decimal n)) named once gives)

-- TO WHAT IS SAID

pub begin_words : (word name value : Text) (rest : List Text) → option_in word ≡ Some (name, None) → (n : ℕ) → value ≡ decimal n
    → BeginWith (45 ∷ 45 ∷ name) n rest (word ∷ value ∷ rest)
begin_words word name value rest spelled n same =
    inl (ap₂ (λ (w v : Text). w ∷ v ∷ rest) (option_spelled word (name, None) spelled ∙ ap (λ (t : Text). 45 ∷ 45 ∷ t) (append-nil name)) same)

pub begin_joined : (word name value : Text) (rest : List Text) → option_in word ≡ Some (name, Some value) → (n : ℕ) → value ≡ decimal n
    → BeginWith (45 ∷ 45 ∷ name) n rest (word ∷ rest)
begin_joined word name value rest spelled n same =
    inr (ap (λ (w : Text). w ∷ rest) (option_spelled word (name, Some value) spelled ∙ ap (λ (v : Text). 45 ∷ 45 ∷ (name ++ 61 ∷ v)) same))

-- whether an option takes a value
abbrev pub takes_value : Option (Text × Bool) → Bool
takes_value None = false
takes_value (Some o) = o.1

-- a text writes one number
pub same_value : (In : ℕ → Type 0) → ((n : ℕ) → In n → n < 2 ^ 64) → (value : Option Text) (one other : Option ℕ) → IsValue In value one → IsValue In value other → one ≡ other
same_value In small None None None is is' = refl
same_value In small None None (Some n) is is' = absurd is'
same_value In small None (Some n) other is is' = absurd is
same_value In small (Some text) None other is is' = absurd is
same_value In small (Some text) (Some n) None is is' = absurd is'
same_value In small (Some text) (Some n) (Some m) is is' = ap Some (decimal_injective n m (small n is.0) (small m is'.0) (sym is.1 ∙ is'.1))
