-- Texts of digits, and the numbers that they write.
use Rattle.std.proofs.Common.{◌≡◌, ◌∙◌, ℕ, ◌<◌, ◌==◌, ◌&&◌, ◌||◌, ◌^◌, ◌⊎◌, inl, inr, Bool, true, false, not, refl, sym, ap, subst, List, [], ◌∷◌, Option, length, get_or, arith, nat_lt, rules}
use Rattle.std.specs.Prelude.{decimal, Result, Ok, Err, MatchOption}
use Rattle.std.specs.List.{list_all}
use Rattle.std.specs.Char.{is_ascii_digit}
use Rattle.std.specs.Result.{result_ok}
use Rattle.std.specs.Str.Parse.{ParsesUnsigned, digits_value}
use Rattle.std.proofs.lemmas.Str.Parse.{IsNumeralModel, numerals_by_value, parse_digits}
use Rattle.std.proofs.lemmas.Fmt.{decimal_digit, decimal_is_IsNumeral, decimal_nonempty, decimal-digits_value, digits_decimal, first_decimal}
use Rattle.std.proofs.lemmas.Grind.{common_steps}
use Rattle.std.proofs.lemmas.Bool.Decides.{nat_tests}
use Rattle.par_words.specs.Numerals.{is_plain}

own : IsNumeralModel (λ ds. list_all is_ascii_digit ds ≡ true) (digits_value 10)
own = numerals_by_value _ (search rules)

-- what the test says
record IsPlain (text : List ℕ) : Type 0 where
  digits : list_all is_ascii_digit text ≡ true
  some : 0 < length text
  lead : get_or text 0 0 ≡ 48 → length text ≡ 1

is_told : (text : List ℕ) → is_plain text ≡ true → IsPlain text
is_told [] e = cc
is_told (c ∷ cs) e = go (list_all is_ascii_digit (c ∷ cs)) refl e
  where
    go : (b : Bool) → list_all is_ascii_digit (c ∷ cs) ≡ b
        → (b && (length (c ∷ cs) == 1 || (nat_lt 1 (length (c ∷ cs)) && not (c == 48)))) ≡ true → IsPlain (c ∷ cs)
    go true is h = record { digits = is; some = omega arith; lead = λ zero. grind (arith, nat_tests, common_steps) }
    go false is h = cc

plain_so : (text : List ℕ) → IsPlain text → is_plain text ≡ true
plain_so [] p = absurd (omega (arith, p.some))
plain_so (c ∷ cs) p = rw (p.digits) (grind (arith, nat_tests, common_steps, p.lead))

none_or_more : (n : ℕ) → (n ≡ 0) ⊎ (0 < n)
none_or_more n = grind arith

lead_decimal : (n : ℕ) → n < 2 ^ 64 → get_or (decimal n) 0 0 ≡ 48 → length (decimal n) ≡ 1
lead_decimal n h zero = go (none_or_more n)
  where
    go : (n ≡ 0) ⊎ (0 < n) → length (decimal n) ≡ 1
    go (inl is) = ap length (ap decimal is ∙ decimal_digit 0 (omega arith))
    go (inr more) = absurd (omega (arith, first_decimal n more h, zero))

pub decimal_digits : (n : ℕ) → n < 2 ^ 64 → list_all is_ascii_digit (decimal n) ≡ true
decimal_digits n h = digits_decimal own n h

plain_decimal : (n : ℕ) → n < 2 ^ 64 → is_plain (decimal n) ≡ true
plain_decimal n h = plain_so (decimal n) (record { digits = decimal_digits n h; some = decimal_nonempty n h; lead = lead_decimal n h })

-- a number's text passes the test
pub only_plain : (text : List ℕ) (b : Bool) → b ≡ is_plain text → b ≡ false → (n : ℕ) → n < 65536 → ¬ (text ≡ decimal n)
only_plain text b is none n small e =
    let passed : is_plain text ≡ true = ap is_plain e ∙ plain_decimal n (omega (arith, small)) in cc

writes : (text : List ℕ) → IsPlain text → digits_value 10 text < 65536 → text ≡ decimal (digits_value 10 text)
writes text p small = sym (decimal-digits_value own text p.digits p.some p.lead (omega (arith, small)))

-- what passes the test is parsed as the number whose text it is, if that is small
pub parsed : {E : Type 0} (text : List ℕ) (r : Result ℕ E) (o : Option ℕ) → is_plain text ≡ true → ParsesUnsigned 16 10 text r → o ≡ result_ok r
    → MatchOption o ((n : ℕ) → n < 65536 → ¬ (text ≡ decimal n)) (λ n. text ≡ decimal n)
parsed {E = E} text (Ok x) o plain read is =
    let p = is_told text plain in
    let got = parse_digits own {E = E} 16 text (Ok x) read p.digits in
    subst (λ (q : Option ℕ). MatchOption q ((n : ℕ) → n < 65536 → ¬ (text ≡ decimal n)) (λ n. text ≡ decimal n)) (sym is) (writes text p (omega (arith, got.0.1)) ∙ ap decimal (sym got.1))
parsed {E = E} text (Err e) o plain read is =
    let p = is_told text plain in
    let got = parse_digits own {E = E} 16 text (Err e) read p.digits in
    subst (λ (q : Option ℕ). MatchOption q ((n : ℕ) → n < 65536 → ¬ (text ≡ decimal n)) (λ n. text ≡ decimal n)) (sym is)
    (λ n small same. got (p.some, omega (arith, small, ap (digits_value 10) same, (decimal_is_IsNumeral n (omega (arith, small))).1)))
