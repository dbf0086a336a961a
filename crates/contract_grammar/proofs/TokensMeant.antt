-- The tokens of a text are those that lie behind one another in it.
use Rattle.std.proofs.Common.{◌≡◌, ◌↔◌, ℕ, zero, suc, ◌+◌, ◌-◌, ◌<◌, ◌≤◌, ◌||◌, Bool, true, false, ◌==◌, List, [], ◌∷◌, length, drop, refl, sym, ap, subst, ◌∙◌, arith, if◌then◌else◌}
use Rattle.std.specs.Prelude.{take_while}
use Rattle.std.proofs.lemmas.List.{length-drop}
use Rattle.std.proofs.lemmas.List.Sums.{take_while-cons}
use Rattle.contract_grammar.specs.declared.token.Token.{Token}
use Rattle.contract_grammar.specs.declared.token.Token.TheVariants.{Bad}
use Rattle.contract_grammar.specs.declared.token.Placed.{Placed}
use Rattle.contract_grammar.specs.Lexer.{is_space, is_letter, is_digit, is_name_byte, begins, is_padded, number_of, word_of, with_equals, sign_at, digits_at, name_at, token_at, placed, lexed, tokens}
use Rattle.contract_grammar.specs.TokenLists.{AreTokens, no_more, behind_space, one_token}

-- ---- a token has a byte

record HasByte (read : Token × ℕ) : Type 0 where
  some : 0 < read.1

either : (b : Bool) (x y : Token × ℕ) → HasByte x → HasByte y → HasByte (if b then x else y)
either true x y h k = h
either false x y h k = k

one_byte : (t : Token) → HasByte (t, 1)
one_byte t = record { some = omega arith }

equals_byte : (behind : List ℕ) (t u : Token) → HasByte (with_equals behind t u)
equals_byte behind t u = either (begins (λ b. b == 61) behind) (t, 2) (u, 1) (record { some = omega arith }) (one_byte u)

sign_byte : (b : ℕ) (behind : List ℕ) → HasByte (sign_at b behind)
unfolding sign_at
sign_byte b behind = either (b == 61) _ _ (equals_byte behind _ _) (either (b == 33) _ _ (equals_byte behind _ _) (either (b == 60) _ _ (equals_byte behind _ _) (either (b == 62) _ _ (equals_byte behind _ _) (one_byte _))))

run_byte : (p : ℕ → Bool) (b : ℕ) (bs : List ℕ) → p b ≡ true → 0 < length (take_while p (b ∷ bs))
run_byte p b bs is = rw (take_while-cons p b bs, is) (omega arith)

number_byte : (b : ℕ) (behind rest : List ℕ) → is_digit b ≡ true → HasByte (number_of (digits_at (b ∷ behind)) rest)
unfolding number_of
number_byte b behind rest is = either (is_padded (digits_at (b ∷ behind)) || begins is_name_byte rest) (Bad, 1) _ (one_byte Bad) (record { some = run_byte is_digit b behind is })

letter_name : (b : ℕ) → is_letter b ≡ true → is_name_byte b ≡ true
letter_name b is = rw is refl

token_byte : (b : ℕ) (behind : List ℕ) → HasByte (token_at (b ∷ behind))
unfolding token_at
token_byte b behind = by_letter (is_letter b) refl
  where
    by_digit : (d : Bool) → is_digit b ≡ d → HasByte (if d then number_of (digits_at (b ∷ behind)) (drop (length (digits_at (b ∷ behind))) (b ∷ behind)) else sign_at b behind)
    by_digit true is = number_byte b behind _ is
    by_digit false is = sign_byte b behind

    by_letter : (l : Bool) → is_letter b ≡ l
        → HasByte (if l then (word_of (name_at (b ∷ behind)), length (name_at (b ∷ behind)))
        else (if is_digit b then number_of (digits_at (b ∷ behind)) (drop (length (digits_at (b ∷ behind))) (b ∷ behind)) else sign_at b behind))
    by_letter true is = record { some = run_byte is_name_byte b behind (letter_name b is) }
    by_letter false is = by_digit (is_digit b) refl

-- ---- bytes to pass over

passed_over : (at skip : ℕ) (bs : List ℕ) → lexed at skip bs ≡ lexed (at + skip) 0 (drop skip bs)
unfolding lexed
passed_over at zero bs = let is : at + 0 ≡ at = omega arith in rw is refl
passed_over at (suc k) [] = refl
passed_over at (suc k) (b ∷ bs) = let is : at + suc k ≡ (at + 1) + k = omega arith in rw is (passed_over (at + 1) k bs)

-- what lies behind a token of this length
behind_token : (at n b : ℕ) (bs : List ℕ) → 0 < n → lexed (at + 1) (n - 1) bs ≡ lexed (at + n) 0 (drop n (b ∷ bs))
behind_token at zero b bs h = absurd (omega arith)
behind_token at (suc k) b bs h =
    let less : suc k - 1 ≡ k = omega arith in
    let place : at + suc k ≡ (at + 1) + k = omega arith in
    rw (less, place) (passed_over (at + 1) k bs)

from_space : (at b : ℕ) (bs : List ℕ) → is_space b ≡ true → lexed at 0 (b ∷ bs) ≡ lexed (at + 1) 0 bs
unfolding lexed
from_space at b bs is = rw is refl

opened : (at b : ℕ) (bs : List ℕ) → is_space b ≡ false → lexed at 0 (b ∷ bs) ≡ placed at (token_at (b ∷ bs)) ∷ lexed (at + 1) ((token_at (b ∷ bs)).1 - 1) bs
unfolding lexed
opened at b bs is = rw is refl

from_token : (at b : ℕ) (bs : List ℕ) → is_space b ≡ false → lexed at 0 (b ∷ bs) ≡ placed at (token_at (b ∷ bs)) ∷ lexed (at + (token_at (b ∷ bs)).1) 0 (drop (token_at (b ∷ bs)).1 (b ∷ bs))
from_token at b bs is = opened at b bs is ∙ ap (λ ks. placed at (token_at (b ∷ bs)) ∷ ks) (behind_token at (token_at (b ∷ bs)).1 b bs (token_byte b bs).some)

none_left : (at : ℕ) → lexed at 0 [] ≡ []
unfolding lexed
none_left at = refl

-- ---- both ways

by_space : (at b : ℕ) (bs : List ℕ) (s : Bool) → is_space b ≡ s → AreTokens (at + 1) bs (lexed (at + 1) 0 bs)
    → AreTokens (at + (token_at (b ∷ bs)).1) (drop (token_at (b ∷ bs)).1 (b ∷ bs)) (lexed (at + (token_at (b ∷ bs)).1) 0 (drop (token_at (b ∷ bs)).1 (b ∷ bs))) → AreTokens at (b ∷ bs) (lexed at 0 (b ∷ bs))
by_space at b bs true is space token = subst (AreTokens at (b ∷ bs)) (sym (from_space at b bs is)) (behind_space is space)
by_space at b bs false is space token = subst (AreTokens at (b ∷ bs)) (sym (from_token at b bs is)) (one_token is token)

less_behind : (len n b : ℕ) (bs : List ℕ) → 0 < len → length (b ∷ bs) ≤ suc n → length (drop len (b ∷ bs)) ≤ n
less_behind len n b bs some le = rw (length-drop len (b ∷ bs)) (omega arith)

tokens_are : (n at : ℕ) (bs : List ℕ) → length bs ≤ n → AreTokens at bs (lexed at 0 bs)
tokens_are n at [] le = subst (AreTokens at []) (sym (none_left at)) no_more
tokens_are zero at (b ∷ bs) le = absurd (omega arith)
tokens_are (suc n) at (b ∷ bs) le =
    by_space at b bs (is_space b) refl (tokens_are n (at + 1) bs (omega arith))
    (tokens_are n (at + (token_at (b ∷ bs)).1) (drop (token_at (b ∷ bs)).1 (b ∷ bs)) (less_behind (token_at (b ∷ bs)).1 n b bs (token_byte b bs).some le))

are_lexed : {at : ℕ} {bs : List ℕ} {ks : List Placed} → AreTokens at bs ks → lexed at 0 bs ≡ ks
are_lexed (no_more {at = at}) = none_left at
are_lexed (behind_space {at = at} {b = b} {bs = bs} is rest) = from_space at b bs is ∙ are_lexed rest
are_lexed (one_token {at = at} {b = b} {bs = bs} is rest) = from_token at b bs is ∙ ap (λ ks. placed at (token_at (b ∷ bs)) ∷ ks) (are_lexed rest)

pub tokens_meant : (text : List ℕ) (ks : List Placed) → (tokens text ≡ ks) ↔ AreTokens 0 text ks
tokens_meant text ks = ((λ e. subst (AreTokens 0 text) e (tokens_are (length text) 0 text (omega arith))), λ t. are_lexed t)
