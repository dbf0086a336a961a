-- A token's bytes, and the byte behind them.
use Rattle.std.proofs.Common.{◌≡◌, ℕ, ◌+◌, ◌-◌, ◌*◌, ◌<◌, ◌≤◌, ◌^◌, ◌||◌, Bool, true, false, cond, List, [], ◌∷◌, codes, length, drop, min, refl, ap, arith, pow-suc, if◌then◌else◌}
use Rattle.std.specs.Prelude.{take_while, bytes_eq, decimal as decimal_text}
use Rattle.std.proofs.lemmas.Bool.{or_parts}
use Rattle.std.proofs.lemmas.Bool.Decides.{nat_tests}
use Rattle.std.proofs.lemmas.Fmt.{length-decimal-le}
use Rattle.std.proofs.lemmas.Nat.{mul-le}
use Rattle.std.proofs.lemmas.List.{length-take}
use Rattle.std.proofs.lemmas.List.Sums.{take_while-cons}
use Rattle.std.proofs.lemmas.Slice.Eq.{bytes_eq-Decides}
use Rattle.txn_types.specs.Values.{max_value}
use Rattle.contract_grammar.specs.declared.token.Mark.TheVariants.{WordOp, WordLet, WordRequire, WordIf, WordElse, WordRepeat, WordRecord, WordNumber, OpenBlock, CloseBlock, Colon, Comma, Semicolon, Becomes}
use Rattle.contract_grammar.specs.declared.token.Operator.TheVariants.{Or, And, Equal, NotEqual, Less, LessEqual, Greater, GreaterEqual, Plus, Minus, Times, Divide, Remainder}
use Rattle.contract_grammar.specs.declared.token.Token.{Token}
use Rattle.contract_grammar.specs.declared.token.Token.TheVariants.{Number, Infix, Not, Open, Close, Fixed, Bad}
use Rattle.contract_grammar.specs.Lexer.{is_letter, is_digit, is_name_byte, decimal, begins, is_padded, number_of, word_in_expression, word_in_block, word_of, single, with_equals, sign_at, digits_at, name_at, token_at}
use Rattle.contract_printer.specs.Canonical.{is_word, token_text}

-- ---- runs of bytes

module _ (p : ℕ → Bool) where
  pub run_short : (bs : List ℕ) → length (take_while p bs) ≤ length bs
  run_short [] = omega arith
  run_short (b ∷ bs) = rw (take_while-cons p b bs) (elim (p b) as (λ t. length (cond t (b ∷ take_while p bs) []) ≤ length (b ∷ bs)) [ true ↦ omega (arith, run_short bs) | false ↦ omega arith ])

  pub run_ends : (bs : List ℕ) → begins p (drop (length (take_while p bs)) bs) ≡ false
  run_ends [] = refl
  run_ends (b ∷ bs) = let rest = run_ends bs in rw (take_while-cons p b bs) (by rest (p b) refl)
    where
      by : begins p (drop (length (take_while p bs)) bs) ≡ false → (t : Bool) → p b ≡ t → begins p (drop (length (cond t (b ∷ take_while p bs) [])) (b ∷ bs)) ≡ false
      by rest true is = rest
      by rest false is = is

  pub run_some : (b : ℕ) (bs : List ℕ) → p b ≡ true → 0 < length (take_while p (b ∷ bs))
  run_some b bs is = rw (take_while-cons p b bs, is) (omega arith)

-- ---- numbers

times_ten : (n d p q : ℕ) → d ≤ 9 → q ≡ p * 10 → (10 * n + d + 1) * p ≤ (n + 1) * q
times_ten n d p q le is = let more = mul-le (10 * n + d + 1) p (10 * n + 10) p (omega arith) (omega arith) in rw is (omega (arith, more))

digit_small : (b : ℕ) → is_digit b ≡ true → b - 48 ≤ 9
digit_small b is = grind (arith, nat_tests)

digits_bound : (bs : List ℕ) (n : ℕ) → decimal n (take_while is_digit bs) < (n + 1) * 10 ^ length (take_while is_digit bs)
digits_bound [] n = omega arith
digits_bound (b ∷ bs) n = let rest = digits_bound bs (10 * n + (b - 48)) in rw (take_while-cons is_digit b bs) (by rest (is_digit b) refl)
  where
    by : decimal (10 * n + (b - 48)) (take_while is_digit bs) < (10 * n + (b - 48) + 1) * 10 ^ length (take_while is_digit bs) → (t : Bool) → is_digit b ≡ t → decimal n (cond t (b ∷ take_while is_digit bs) []) < (n + 1) * 10 ^ length (cond t (b ∷ take_while is_digit bs) [])
    by rest true is =
        let more = times_ten n (b - 48) (10 ^ length (take_while is_digit bs)) (10 ^ length (b ∷ take_while is_digit bs)) (digit_small b is) (pow-suc 10 (length (take_while is_digit bs))) in
        omega (arith, rest, more)
    by rest false is = omega arith

number_text : (bs : List ℕ) → 0 < length (take_while is_digit bs) → length (decimal_text (min (decimal 0 (take_while is_digit bs)) (max_value + 1))) ≤ length (take_while is_digit bs)
number_text bs some =
    let n = min (decimal 0 (take_while is_digit bs)) (max_value + 1) in
    let small : n < 10 ^ length (take_while is_digit bs) = omega (arith, digits_bound bs 0) in
    length-decimal-le (length (take_while is_digit bs)) n some small (omega arith)

-- ---- words

-- a token that is no longer than these bytes
record Fits (bs : List ℕ) (t : Token) : Type 0 where
  le : length (token_text t) ≤ length bs

keyword : (bs ws : List ℕ) (t u : Token) → length (token_text t) ≡ length ws → Fits bs u → Fits bs (if bytes_eq bs ws then t else u)
keyword bs ws t u is h =
    elim (bytes_eq bs ws) as (λ b. (b ≡ true → bs ≡ ws) → Fits bs (if b then t else u)) [
      | true ↦ λ same. record { le = omega (arith, is, ap (λ (l : List ℕ). length l) (same refl)) }
      | false ↦ λ same. h
    ] (bytes_eq-Decides bs ws).0

word_text : (bs : List ℕ) → Fits bs (word_of bs)
unfolding word_of word_in_block word_in_expression
word_text bs =
    keyword bs (codes "op") (Fixed WordOp) _ refl (keyword bs (codes "record") (Fixed WordRecord) _ refl (keyword bs (codes "number") (Fixed WordNumber) _ refl
    (keyword bs (codes "let") (Fixed WordLet) _ refl (keyword bs (codes "require") (Fixed WordRequire) _ refl (keyword bs (codes "if") (Fixed WordIf) _ refl
    (keyword bs (codes "else") (Fixed WordElse) _ refl (keyword bs (codes "repeat") (Fixed WordRepeat) _ refl
    (keyword bs (codes "and") (Infix And) _ refl (keyword bs (codes "or") (Infix Or) _ refl (keyword bs (codes "not") Not _ refl (record { le = omega (arith, length-take 32 bs) })))))))))))

-- ---- the token at the first byte

-- a token of this length at the first of these bytes
pub record IsAt (bytes : List ℕ) (read : Token × ℕ) : Type 0 where
  pub text : length (token_text read.0) ≤ read.1
  pub some : 0 < read.1
  pub room : read.1 ≤ length bytes
  pub ends : is_word read.0 ≡ true → begins is_name_byte (drop read.1 bytes) ≡ false
  pub apart : begins is_name_byte bytes ≡ false → is_word read.0 ≡ false

clash : {A : Type 0} (b : Bool) → b ≡ true → b ≡ false → A
clash b t f = absurd cc

at_if : (bytes : List ℕ) (c : Bool) (x y : Token × ℕ) → IsAt bytes x → IsAt bytes y → IsAt bytes (if c then x else y)
at_if bytes true x y h k = h
at_if bytes false x y h k = k

sign_is : (b : ℕ) (behind : List ℕ) (t : Token) → length (token_text t) ≤ 1 → is_word t ≡ false → IsAt (b ∷ behind) (t, 1)
sign_is b behind t le is = record { text = le; some = omega arith; room = omega arith; ends = λ other. clash _ other is; apart = λ h. is }

with_equals_is : (b : ℕ) (behind : List ℕ) (with_it alone : Token) → length (token_text with_it) ≤ 2 → length (token_text alone) ≤ 1 → is_word with_it ≡ false → is_word alone ≡ false
    → IsAt (b ∷ behind) (with_equals behind with_it alone)
with_equals_is b [] with_it alone two one is also = sign_is b [] alone one also
with_equals_is b (c ∷ cs) with_it alone two one is also =
    at_if (b ∷ c ∷ cs) _ (with_it, 2) (alone, 1) (record { text = two; some = omega arith; room = omega arith; ends = λ other. clash _ other is; apart = λ h. is }) (sign_is b (c ∷ cs) alone one also)

-- a sign of one byte
record IsSign (t : Token) : Type 0 where
  le : length (token_text t) ≤ 1
  is : is_word t ≡ false

sign_if : (c : Bool) (t u : Token) → IsSign t → IsSign u → IsSign (if c then t else u)
sign_if true t u h k = h
sign_if false t u h k = k

single_is : (b : ℕ) → IsSign (single b)
unfolding single
single_is b =
    sign_if _ Open _ (record { le = omega arith; is = refl }) (sign_if _ Close _ (record { le = omega arith; is = refl }) (sign_if _ (Fixed OpenBlock) _ (record { le = omega arith; is = refl }) (sign_if _ (Fixed CloseBlock) _ (record { le = omega arith; is = refl })
    (sign_if _ (Fixed Colon) _ (record { le = omega arith; is = refl }) (sign_if _ (Fixed Comma) _ (record { le = omega arith; is = refl }) (sign_if _ (Fixed Semicolon) _ (record { le = omega arith; is = refl })
    (sign_if _ (Infix Plus) _ (record { le = omega arith; is = refl }) (sign_if _ (Infix Minus) _ (record { le = omega arith; is = refl }) (sign_if _ (Infix Times) _ (record { le = omega arith; is = refl }) (sign_if _ (Infix Divide) _ (record { le = omega arith; is = refl })
    (sign_if _ (Infix Remainder) Bad (record { le = omega arith; is = refl }) (record { le = omega arith; is = refl }))))))))))))

sign_at_is : (b : ℕ) (behind : List ℕ) → IsAt (b ∷ behind) (sign_at b behind)
unfolding sign_at
sign_at_is b behind =
    at_if (b ∷ behind) _ (with_equals behind (Infix Equal) (Fixed Becomes)) _ (with_equals_is b behind (Infix Equal) (Fixed Becomes) (omega arith) (omega arith) refl refl)
    (at_if (b ∷ behind) _ (with_equals behind (Infix NotEqual) Bad) _ (with_equals_is b behind (Infix NotEqual) Bad (omega arith) (omega arith) refl refl)
    (at_if (b ∷ behind) _ (with_equals behind (Infix LessEqual) (Infix Less)) _ (with_equals_is b behind (Infix LessEqual) (Infix Less) (omega arith) (omega arith) refl refl)
    (at_if (b ∷ behind) _ (with_equals behind (Infix GreaterEqual) (Infix Greater)) (single b, 1) (with_equals_is b behind (Infix GreaterEqual) (Infix Greater) (omega arith) (omega arith) refl refl)
    (sign_is b behind (single b) (single_is b).le (single_is b).is))))

letter_name : (b : ℕ) → is_letter b ≡ true → is_name_byte b ≡ true
letter_name b is = rw is refl

digit_name : (b : ℕ) → is_digit b ≡ true → is_name_byte b ≡ false → ⊥
digit_name b is h = clash _ is (or_parts _ _ (or_parts _ _ h).1).0

word_is : (b : ℕ) (behind : List ℕ) → is_letter b ≡ true → IsAt (b ∷ behind) (word_of (name_at (b ∷ behind)), length (name_at (b ∷ behind)))
word_is b behind is = record {
  text = (word_text (name_at (b ∷ behind))).le;
  some = run_some is_name_byte b behind (letter_name b is);
  room = run_short is_name_byte (b ∷ behind);
  ends = λ other. run_ends is_name_byte (b ∷ behind);
  apart = λ other. clash _ (letter_name b is) other;
}

number_is : (b : ℕ) (behind : List ℕ) (c d : Bool) → is_digit b ≡ true → begins is_name_byte (drop (length (digits_at (b ∷ behind))) (b ∷ behind)) ≡ d
    → IsAt (b ∷ behind) (if c || d then (Bad, 1) else (Number (min (decimal 0 (digits_at (b ∷ behind))) (max_value + 1)), length (digits_at (b ∷ behind))))
number_is b behind true d is e = sign_is b behind Bad (omega arith) refl
number_is b behind false true is e = sign_is b behind Bad (omega arith) refl
number_is b behind false false is e =
    let some = run_some is_digit b behind is in
    record { text = number_text (b ∷ behind) some; some = some; room = run_short is_digit (b ∷ behind); ends = λ other. e; apart = λ other. absurd (digit_name b is other) }

pub token_is : (b : ℕ) (behind : List ℕ) → IsAt (b ∷ behind) (token_at (b ∷ behind))
unfolding token_at number_of
token_is b behind = by_letter (is_letter b) refl
  where
    by_digit : (d : Bool) → is_digit b ≡ d → IsAt (b ∷ behind) (if d then number_of (digits_at (b ∷ behind)) (drop (length (digits_at (b ∷ behind))) (b ∷ behind)) else sign_at b behind)
    by_digit true is = number_is b behind (is_padded (digits_at (b ∷ behind))) _ is refl
    by_digit false is = sign_at_is b behind

    by_letter : (l : Bool) → is_letter b ≡ l
        → IsAt (b ∷ behind)
        (if l then (word_of (name_at (b ∷ behind)), length (name_at (b ∷ behind)))
        else (if is_digit b then number_of (digits_at (b ∷ behind)) (drop (length (digits_at (b ∷ behind))) (b ∷ behind)) else sign_at b behind))
    by_letter true is = word_is b behind is
    by_letter false is = by_digit (is_digit b) refl
