-- The tokens of a text within the limits are usual: numbers within the limit, and whole names that are no other words.
use Rattle.std.proofs.Common.{◌≡◌, ◌⊎◌, ℕ, zero, suc, ◌+◌, ◌-◌, ◌<◌, ◌≤◌, Bool, true, false, List, [], ◌∷◌, drop, length, take, nat_lt, refl, sym, ◌∙◌, subst, arith, inl, inr, if◌then◌else◌}
use Rattle.std.specs.Prelude.{take_while}
use Rattle.std.proofs.lemmas.Bool.{or_parts}
use Rattle.std.proofs.lemmas.Bool.Decides.{nat_tests}
use Rattle.std.proofs.lemmas.List.{take_all}
use Rattle.std.proofs.lemmas.List.Sums.{take_while-cons}
use Rattle.txn_types.specs.Values.{max_value}
use Rattle.contract_grammar.specs.declared.token.Mark.TheVariants.{WordOp, WordLet, WordRequire, WordIf, WordElse, WordRepeat, WordRecord, WordNumber, OpenBlock, CloseBlock, Colon, Comma, Semicolon, Becomes}
use Rattle.contract_grammar.specs.declared.token.Operator.TheVariants.{Or, And, Equal, NotEqual, Less, LessEqual, Greater, GreaterEqual, Plus, Minus, Times, Divide, Remainder}
use Rattle.contract_grammar.specs.declared.token.Token.{Token}
use Rattle.contract_grammar.specs.declared.token.Token.TheVariants.{Number, Named, Infix, Not, Open, Close, Fixed, Bad}
use Rattle.contract_grammar.specs.declared.token.Placed.{Placed}
use Rattle.contract_grammar.specs.Lexer.{is_space, is_letter, is_digit, is_name_byte, begins, number_of, named, word_in_expression, word_in_block, word_of, single, with_equals, sign_at, digits_at, name_at, token_at, placed, lexed, tokens}
use Rattle.contract_grammar.specs.Limits.{Tally, no_tally, tallied, passes, is_large, is_long_name, IsWithinLimits}
use Rattle.contract_text.proofs.Quiet.{Quiet, quiet_within}
use Rattle.contract_printer.proofs.Whole.{IsWordText, run_again}
use Rattle.contract_printer.proofs.Separate.{IsUsual, AllUsual}

-- a name that isn't cut is read as it is
record IsWhole (t : Token) : Type 0 where
  whole : (x : List ℕ) (long : Bool) → t ≡ Named x long → long ≡ false → IsWordText x (Named x false)

abbrev NotNamed : Token → Type 0
NotNamed (Named x long) = ⊥
NotNamed _ = Unit {0}

no_name : (t : Token) → NotNamed t → IsWhole t
no_name (Number n) h = record { whole = λ x long e. absurd cc }
no_name (Named x long) h = absurd h
no_name (Infix op) h = record { whole = λ x long e. absurd cc }
no_name Not h = record { whole = λ x long e. absurd cc }
no_name Open h = record { whole = λ x long e. absurd cc }
no_name Close h = record { whole = λ x long e. absurd cc }
no_name (Fixed m) h = record { whole = λ x long e. absurd cc }
no_name Bad h = record { whole = λ x long e. absurd cc }

-- what a word comes to: no name, or the name of all its bytes
record IsWord (bs : List ℕ) (t : Token) : Type 0 where
  is : NotNamed t ⊎ (t ≡ named bs)

word_if : (bs : List ℕ) (c : Bool) (t u : Token) → NotNamed t → IsWord bs u → IsWord bs (if c then t else u)
word_if bs true t u h k = record { is = inl h }
word_if bs false t u h k = k

word_is : (bs : List ℕ) → IsWord bs (word_of bs)
unfolding word_of word_in_block word_in_expression
word_is bs =
    word_if bs _ (Fixed WordOp) _ tt (word_if bs _ (Fixed WordRecord) _ tt (word_if bs _ (Fixed WordNumber) _ tt (word_if bs _ (Fixed WordLet) _ tt (word_if bs _ (Fixed WordRequire) _ tt
    (word_if bs _ (Fixed WordIf) _ tt (word_if bs _ (Fixed WordElse) _ tt (word_if bs _ (Fixed WordRepeat) _ tt (word_if bs _ (Infix And) _ tt (word_if bs _ (Infix Or) _ tt
    (word_if bs _ Not (named bs) tt (record { is = inr refl })))))))))))

abbrev name_token : List ℕ → Bool → Token
name_token x long = Named x long

named_name : (x y : List ℕ) (a b : Bool) → name_token x a ≡ name_token y b → x ≡ y
named_name x y a b h = cc

named_long : (x y : List ℕ) (a b : Bool) → name_token x a ≡ name_token y b → a ≡ b
named_long x y a b h = cc

not_long : (bs : List ℕ) → nat_lt 32 (length bs) ≡ false → length bs ≤ 32
not_long bs h = grind (arith, nat_tests)

word_whole : (bs : List ℕ) → begins is_letter bs ≡ true → take_while is_name_byte bs ≡ bs → (t : Token) → word_of bs ≡ t → NotNamed t ⊎ (t ≡ named bs) → IsWhole t
word_whole bs first run t is (inl h) = no_name t h
word_whole bs first run t is (inr e) = record {
  whole = λ x long h short.
      let same = sym e ∙ h in
      let long_is : nat_lt 32 (length bs) ≡ false = named_long (take 32 bs) x (nat_lt 32 (length bs)) long same ∙ short in
      let name_is : bs ≡ x = sym (take_all 32 bs (not_long bs long_is)) ∙ named_name (take 32 bs) x (nat_lt 32 (length bs)) long same in
      subst (λ y. IsWordText y (Named y false)) name_is (record { first = first; run = run; is = is ∙ e ∙ (λ i. Named (take_all 32 bs (not_long bs long_is) i) (long_is i)) });
}

record IsRead (read : Token × ℕ) : Type 0 where
  is : IsWhole read.0

read_if : (c : Bool) (x y : Token × ℕ) → IsRead x → IsRead y → IsRead (if c then x else y)
read_if true x y h k = h
read_if false x y h k = k

plain_read : (t : Token) (n : ℕ) → NotNamed t → IsRead (t, n)
plain_read t n h = record { is = no_name t h }

with_equals_read : (behind : List ℕ) (t u : Token) → NotNamed t → NotNamed u → IsRead (with_equals behind t u)
with_equals_read behind t u h k = read_if _ (t, 2) (u, 1) (plain_read t 2 h) (plain_read u 1 k)

whole_if : (c : Bool) (t u : Token) → IsWhole t → IsWhole u → IsWhole (if c then t else u)
whole_if true t u h k = h
whole_if false t u h k = k

single_whole : (b : ℕ) → IsWhole (single b)
unfolding single
single_whole b =
    whole_if _ Open _ (no_name Open tt) (whole_if _ Close _ (no_name Close tt) (whole_if _ (Fixed OpenBlock) _ (no_name (Fixed OpenBlock) tt) (whole_if _ (Fixed CloseBlock) _ (no_name (Fixed CloseBlock) tt)
    (whole_if _ (Fixed Colon) _ (no_name (Fixed Colon) tt) (whole_if _ (Fixed Comma) _ (no_name (Fixed Comma) tt) (whole_if _ (Fixed Semicolon) _ (no_name (Fixed Semicolon) tt)
    (whole_if _ (Infix Plus) _ (no_name (Infix Plus) tt) (whole_if _ (Infix Minus) _ (no_name (Infix Minus) tt) (whole_if _ (Infix Times) _ (no_name (Infix Times) tt)
    (whole_if _ (Infix Divide) _ (no_name (Infix Divide) tt) (whole_if _ (Infix Remainder) Bad (no_name (Infix Remainder) tt) (no_name Bad tt))))))))))))

sign_read : (b : ℕ) (behind : List ℕ) → IsRead (sign_at b behind)
unfolding sign_at
sign_read b behind =
    read_if _ (with_equals behind (Infix Equal) (Fixed Becomes)) _ (with_equals_read behind (Infix Equal) (Fixed Becomes) tt tt)
    (read_if _ (with_equals behind (Infix NotEqual) Bad) _ (with_equals_read behind (Infix NotEqual) Bad tt tt)
    (read_if _ (with_equals behind (Infix LessEqual) (Infix Less)) _ (with_equals_read behind (Infix LessEqual) (Infix Less) tt tt)
    (read_if _ (with_equals behind (Infix GreaterEqual) (Infix Greater)) (single b, 1) (with_equals_read behind (Infix GreaterEqual) (Infix Greater) tt tt) (record { is = single_whole b }))))

number_read : (digits behind : List ℕ) → IsRead (number_of digits behind)
unfolding number_of
number_read digits behind = read_if _ (Bad, 1) _ (plain_read Bad 1 tt) (record { is = no_name (Number _) tt })

letter_run : (b : ℕ) (bs : List ℕ) → is_letter b ≡ true → begins is_letter (name_at (b ∷ bs)) ≡ true
letter_run b bs h = rw (take_while-cons is_name_byte b bs, h) h

token_read : (b : ℕ) (bs : List ℕ) → IsRead (token_at (b ∷ bs))
unfolding token_at
token_read b bs = by (is_letter b) refl
  where
    by : (l : Bool) → is_letter b ≡ l
        → IsRead (if l then (word_of (name_at (b ∷ bs)), length (name_at (b ∷ bs)))
        else (if is_digit b then number_of (digits_at (b ∷ bs)) (drop (length (digits_at (b ∷ bs))) (b ∷ bs)) else sign_at b bs))
    by true is = record { is = word_whole (name_at (b ∷ bs)) (letter_run b bs is) (run_again is_name_byte (b ∷ bs)) (word_of (name_at (b ∷ bs))) refl (word_is (name_at (b ∷ bs))).is }
    by false is = read_if _ (number_of (digits_at (b ∷ bs)) (drop (length (digits_at (b ∷ bs))) (b ∷ bs))) (sign_at b bs) (number_read _ _) (sign_read b bs)

abbrev AllWhole : List Placed → Type 0
AllWhole [] = Unit {0}
AllWhole (k ∷ ks) = IsWhole k.token × AllWhole ks

lexed_whole : (at skip : ℕ) (bs : List ℕ) → AllWhole (lexed at skip bs)
unfolding lexed
lexed_whole at skip [] = tt
lexed_whole at (suc skip) (b ∷ bs) = lexed_whole (at + 1) skip bs
lexed_whole at zero (b ∷ bs) =
    elim (is_space b) as (λ s. AllWhole (if s then lexed (at + 1) 0 bs else placed at (token_at (b ∷ bs)) ∷ lexed (at + 1) ((token_at (b ∷ bs)).1 - 1) bs)) [
      | true ↦ lexed_whole (at + 1) 0 bs
      | false ↦ ((token_read b bs).is, lexed_whole (at + 1) ((token_at (b ∷ bs)).1 - 1) bs)
    ]

small : (n : ℕ) → nat_lt max_value n ≡ false → n < max_value + 1
small n h = grind (arith, nat_tests)

usual : (t : Token) → IsWhole t → is_large t ≡ false → is_long_name t ≡ false → IsUsual t
usual (Number n) w a b = small n a
usual (Named x long) w a b = w.whole x long refl b
usual (Infix op) w a b = tt
usual Not w a b = tt
usual Open w a b = tt
usual Close w a b = tt
usual (Fixed m) w a b = tt
usual Bad w a b = tt

token_usual : (c : Tally) (k : Placed) → IsWhole k.token → passes c k ≡ false → IsUsual k.token
unfolding passes
token_usual c k w h = let a = or_parts _ _ h in let b = or_parts _ _ a.1 in usual k.token w a.0 b.0

all_usual : (c : Tally) (ks : List Placed) → AllWhole ks → Quiet c ks → AllUsual ks
all_usual c [] w q = tt
all_usual c (k ∷ ks) w q = (token_usual c k w.0 q.0, all_usual (tallied c k) ks w.1 q.1)

pub tokens_usual : (text : List ℕ) → IsWithinLimits (tokens text) → AllUsual (tokens text)
tokens_usual text h = all_usual no_tally (tokens text) (lexed_whole 0 0 text) (quiet_within (tokens text) h)
