-- The tokens of a text made of tokens that don't glue are these tokens.
use Rattle.std.proofs.Common.{◌≡◌, ℕ, suc, ◌+◌, ◌-◌, ◌<◌, ◌&&◌, ◌==◌, Bool, true, false, List, [], ◌∷◌, ◌++◌, codes, length, refl, sym, ap, ◌∙◌, arith, if◌then◌else◌}
use Rattle.std.specs.Prelude.{decimal as decimal_text}
use Rattle.std.proofs.lemmas.Bool.Decides.{nat_tests}
use Rattle.txn_types.specs.Values.{max_value}
use Rattle.contract_grammar.specs.declared.token.Mark.{Mark}
use Rattle.contract_grammar.specs.declared.token.Mark.TheVariants.{WordOp, WordLet, WordRequire, WordIf, WordElse, WordRepeat, WordRecord, WordNumber, OpenBlock, CloseBlock, Colon, Comma, Semicolon, Becomes}
use Rattle.contract_grammar.specs.declared.token.Operator.{Operator}
use Rattle.contract_grammar.specs.declared.token.Operator.TheVariants.{Or, And, Equal, NotEqual, Less, LessEqual, Greater, GreaterEqual, Plus, Minus, Times, Divide, Remainder}
use Rattle.contract_grammar.specs.declared.token.Token.{Token}
use Rattle.contract_grammar.specs.declared.token.Token.TheVariants.{Number, Named, Infix, Not, Open, Close, Fixed, Bad}
use Rattle.contract_grammar.specs.declared.token.Placed.{Placed}
use Rattle.contract_grammar.specs.Lexer.{is_space, is_letter, is_digit, is_name_byte, begins, word_of, word_in_block, word_in_expression, single, sign_at, token_at, placed, lexed, tokens}
use Rattle.contract_printer.specs.Canonical.{is_word, space, token_text, text_behind, text_of}
use Rattle.contract_printer.proofs.Between.{toks, one}
use Rattle.contract_printer.proofs.Texts.{skips}
use Rattle.contract_printer.proofs.Whole.{IsWordText, word_again, pick_other, dropped, IsNumber, digits_of_number, number_again, run_front}

-- the bytes of the token are read as it
abbrev pub IsFine : Token → Type 0
IsFine (Number n) = n < max_value + 1
IsFine (Named x long) = IsWordText x (Named x long)
IsFine Bad = ⊥
IsFine _ = Unit {0}

-- a sign that a `=` would lengthen
abbrev pub joins : Token → Bool
joins (Fixed Becomes) = true
joins (Infix Less) = true
joins (Infix Greater) = true
joins _ = false

-- a sign that begins with `=`
abbrev pub begins_equal : Token → Bool
begins_equal (Fixed Becomes) = true
begins_equal (Infix Equal) = true
begins_equal _ = false

-- fine tokens of which no two neighbours glue, behind a sign that a `=` would lengthen or not
abbrev pub Good : Bool → List Token → Type 0
Good j [] = Unit {0}
Good j (t ∷ ts) = (j ≡ true → begins_equal t ≡ false) × IsFine t × Good (joins t) ts

-- what begins with a byte that no such sign or word takes
record IsClear (j w : Bool) (rest : List ℕ) : Type 0 where
  equal : j ≡ true → begins (λ b. b == 61) rest ≡ false
  word : w ≡ true → begins is_name_byte rest ≡ false

-- the first byte of a token
record Front (t : Token) : Type 0 where
  byte : ℕ
  others : List ℕ
  is : token_text t ≡ byte ∷ others
  no_space : is_space byte ≡ false
  sign : is_word t ≡ false → is_name_byte byte ≡ false
  equal : begins_equal t ≡ false → (byte == 61) ≡ false

letter_front : (b : ℕ) → is_letter b ≡ true → (is_space b ≡ false) × ((b == 61) ≡ false)
letter_front b h = (grind (arith, nat_tests), grind (arith, nat_tests))

digit_front : (b : ℕ) → is_digit b ≡ true → (is_space b ≡ false) × ((b == 61) ≡ false)
digit_front b h = (grind (arith, nat_tests), grind (arith, nat_tests))

word_front : (t : Token) (bs : List ℕ) → token_text t ≡ bs → begins is_letter bs ≡ true → is_word t ≡ true → Front t
word_front t [] is h w = let no_byte : false ≡ true = h in absurd cc
word_front t (b ∷ bs) is h w = let f = letter_front b h in record { byte = b; others = bs; is = is; no_space = f.0; sign = λ e. absurd cc; equal = λ e. f.1 }

number_front : (n : ℕ) (ds : List ℕ) → decimal_text n ≡ ds → IsNumber n ds → Front (Number n)
number_front n [] is h = absurd (omega (arith, h.some))
number_front n (d ∷ ds) is h = let f = digit_front d (run_front is_digit d ds h.run) in record { byte = d; others = ds; is = is; no_space = f.0; sign = λ e. absurd cc; equal = λ e. f.1 }

mark_front : (m : Mark) → Front (Fixed m)
mark_front WordOp = word_front (Fixed WordOp) (codes "op") refl refl refl
mark_front WordLet = word_front (Fixed WordLet) (codes "let") refl refl refl
mark_front WordRequire = word_front (Fixed WordRequire) (codes "require") refl refl refl
mark_front WordIf = word_front (Fixed WordIf) (codes "if") refl refl refl
mark_front WordElse = word_front (Fixed WordElse) (codes "else") refl refl refl
mark_front WordRepeat = word_front (Fixed WordRepeat) (codes "repeat") refl refl refl
mark_front WordRecord = word_front (Fixed WordRecord) (codes "record") refl refl refl
mark_front WordNumber = word_front (Fixed WordNumber) (codes "number") refl refl refl
mark_front OpenBlock = record { byte = 123; others = []; is = refl; no_space = refl; sign = λ e. refl; equal = λ e. refl }
mark_front CloseBlock = record { byte = 125; others = []; is = refl; no_space = refl; sign = λ e. refl; equal = λ e. refl }
mark_front Colon = record { byte = 58; others = []; is = refl; no_space = refl; sign = λ e. refl; equal = λ e. refl }
mark_front Comma = record { byte = 44; others = []; is = refl; no_space = refl; sign = λ e. refl; equal = λ e. refl }
mark_front Semicolon = record { byte = 59; others = []; is = refl; no_space = refl; sign = λ e. refl; equal = λ e. refl }
mark_front Becomes = record { byte = 61; others = []; is = refl; no_space = refl; sign = λ e. refl; equal = λ e. absurd cc }

operator_front : (op : Operator) → Front (Infix op)
operator_front Or = word_front (Infix Or) (codes "or") refl refl refl
operator_front And = word_front (Infix And) (codes "and") refl refl refl
operator_front Equal = record { byte = 61; others = 61 ∷ []; is = refl; no_space = refl; sign = λ e. refl; equal = λ e. absurd cc }
operator_front NotEqual = record { byte = 33; others = 61 ∷ []; is = refl; no_space = refl; sign = λ e. refl; equal = λ e. refl }
operator_front Less = record { byte = 60; others = []; is = refl; no_space = refl; sign = λ e. refl; equal = λ e. refl }
operator_front LessEqual = record { byte = 60; others = 61 ∷ []; is = refl; no_space = refl; sign = λ e. refl; equal = λ e. refl }
operator_front Greater = record { byte = 62; others = []; is = refl; no_space = refl; sign = λ e. refl; equal = λ e. refl }
operator_front GreaterEqual = record { byte = 62; others = 61 ∷ []; is = refl; no_space = refl; sign = λ e. refl; equal = λ e. refl }
operator_front Plus = record { byte = 43; others = []; is = refl; no_space = refl; sign = λ e. refl; equal = λ e. refl }
operator_front Minus = record { byte = 45; others = []; is = refl; no_space = refl; sign = λ e. refl; equal = λ e. refl }
operator_front Times = record { byte = 42; others = []; is = refl; no_space = refl; sign = λ e. refl; equal = λ e. refl }
operator_front Divide = record { byte = 47; others = []; is = refl; no_space = refl; sign = λ e. refl; equal = λ e. refl }
operator_front Remainder = record { byte = 37; others = []; is = refl; no_space = refl; sign = λ e. refl; equal = λ e. refl }

front : (t : Token) → IsFine t → Front t
front (Number n) h = number_front n (decimal_text n) refl (digits_of_number n (omega (arith, h)))
front (Named x long) h = word_front (Named x long) x refl h.first refl
front (Infix op) h = operator_front op
front Not h = word_front Not (codes "not") refl refl refl
front Open h = record { byte = 40; others = []; is = refl; no_space = refl; sign = λ e. refl; equal = λ e. refl }
front Close h = record { byte = 41; others = []; is = refl; no_space = refl; sign = λ e. refl; equal = λ e. refl }
front (Fixed m) h = mark_front m
front Bad h = absurd h

-- ---- one token

mark_again : (m : Mark) (rest : List ℕ) → IsClear (joins (Fixed m)) (is_word (Fixed m)) rest → token_at (token_text (Fixed m) ++ rest) ≡ (Fixed m, length (token_text (Fixed m)))
unfolding token_at sign_at single word_of word_in_block word_in_expression
mark_again WordOp rest c = word_again (codes "op") rest (Fixed WordOp) (record { first = refl; run = refl; is = refl }) (c.word refl)
mark_again WordLet rest c = word_again (codes "let") rest (Fixed WordLet) (record { first = refl; run = refl; is = refl }) (c.word refl)
mark_again WordRequire rest c = word_again (codes "require") rest (Fixed WordRequire) (record { first = refl; run = refl; is = refl }) (c.word refl)
mark_again WordIf rest c = word_again (codes "if") rest (Fixed WordIf) (record { first = refl; run = refl; is = refl }) (c.word refl)
mark_again WordElse rest c = word_again (codes "else") rest (Fixed WordElse) (record { first = refl; run = refl; is = refl }) (c.word refl)
mark_again WordRepeat rest c = word_again (codes "repeat") rest (Fixed WordRepeat) (record { first = refl; run = refl; is = refl }) (c.word refl)
mark_again WordRecord rest c = word_again (codes "record") rest (Fixed WordRecord) (record { first = refl; run = refl; is = refl }) (c.word refl)
mark_again WordNumber rest c = word_again (codes "number") rest (Fixed WordNumber) (record { first = refl; run = refl; is = refl }) (c.word refl)
mark_again OpenBlock rest c = refl
mark_again CloseBlock rest c = refl
mark_again Colon rest c = refl
mark_again Comma rest c = refl
mark_again Semicolon rest c = refl
mark_again Becomes rest c = pick_other _ _ _ (c.equal refl)

operator_again : (op : Operator) (rest : List ℕ) → IsClear (joins (Infix op)) (is_word (Infix op)) rest → token_at (token_text (Infix op) ++ rest) ≡ (Infix op, length (token_text (Infix op)))
unfolding token_at sign_at single word_of word_in_block word_in_expression
operator_again Or rest c = word_again (codes "or") rest (Infix Or) (record { first = refl; run = refl; is = refl }) (c.word refl)
operator_again And rest c = word_again (codes "and") rest (Infix And) (record { first = refl; run = refl; is = refl }) (c.word refl)
operator_again Equal rest c = refl
operator_again NotEqual rest c = refl
operator_again Less rest c = pick_other _ _ _ (c.equal refl)
operator_again LessEqual rest c = refl
operator_again Greater rest c = pick_other _ _ _ (c.equal refl)
operator_again GreaterEqual rest c = refl
operator_again Plus rest c = refl
operator_again Minus rest c = refl
operator_again Times rest c = refl
operator_again Divide rest c = refl
operator_again Remainder rest c = refl

again : (t : Token) → IsFine t → (rest : List ℕ) → IsClear (joins t) (is_word t) rest → token_at (token_text t ++ rest) ≡ (t, length (token_text t))
unfolding token_at sign_at single word_of word_in_block word_in_expression
again (Number n) h rest c = number_again n rest h (c.word refl)
again (Named x long) h rest c = word_again x rest (Named x long) h (c.word refl)
again (Infix op) h rest c = operator_again op rest c
again Not h rest c = word_again (codes "not") rest Not (record { first = refl; run = refl; is = refl }) (c.word refl)
again Open h rest c = refl
again Close h rest c = refl
again (Fixed m) h rest c = mark_again m rest c
again Bad h rest c = absurd h

-- ---- all of them

clear_space : (j : Bool) (rest : List ℕ) → IsClear j true (32 ∷ rest)
clear_space j rest = record { equal = λ e. refl; word = λ e. refl }

sign_or_word : (j w v : Bool) (t : Token) (rest : List ℕ) → is_word t ≡ v → Front t → (j ≡ true → begins_equal t ≡ false) → (w ≡ true → v ≡ false) → IsClear j w (token_text t ++ rest)
sign_or_word j w v t rest is f equal apart = rw f.is (record { equal = λ e. f.equal (equal e); word = λ e. f.sign (is ∙ apart e) })

both_words : (j w v : Bool) (t : Token) (rest : List ℕ) → is_word t ≡ v → Front t → (j ≡ true → begins_equal t ≡ false) → IsClear j w (space (w && v) ++ (token_text t ++ rest))
both_words j true true t rest is f equal = record { equal = λ e. refl; word = λ e. refl }
both_words j true false t rest is f equal = sign_or_word j true false t rest is f equal (λ e. refl)
both_words j false v t rest is f equal = sign_or_word j false v t rest is f equal (λ e. absurd cc)

clear : (j w : Bool) (ts : List Token) → Good j ts → IsClear j w (text_behind w ts)
clear j w [] g = record { equal = λ e. refl; word = λ e. refl }
clear j w (t ∷ ts) g = both_words j w (is_word t) t (text_behind (is_word t) ts) refl (front t g.1) g.0

-- a token and what follows
one_again : (at : ℕ) (t : Token) (rest : List ℕ) → Front t → token_at (token_text t ++ rest) ≡ (t, length (token_text t)) → lexed at 0 (token_text t ++ rest) ≡ placed at (t, length (token_text t)) ∷ lexed (at + length (token_text t)) 0 rest
unfolding lexed
one_again at t rest f is =
    let bytes : token_text t ++ rest ≡ f.byte ∷ (f.others ++ rest) = ap (λ (l : List ℕ). l ++ rest) f.is in
    let len : length (token_text t) ≡ suc (length f.others) = ap (λ (l : List ℕ). length l) f.is in
    let read : token_at (f.byte ∷ (f.others ++ rest)) ≡ (t, suc (length f.others)) = ap token_at (sym bytes) ∙ is ∙ (λ i. (t, len i)) in
    let less : suc (length f.others) - 1 ≡ length f.others = omega arith in
    let place : at + 1 + length f.others ≡ at + length (token_text t) = omega (arith, len) in
    ap (λ (l : List ℕ). lexed at 0 l) bytes
    ∙ ap (λ b. if b then lexed (at + 1) 0 (f.others ++ rest) else placed at (token_at (f.byte ∷ (f.others ++ rest))) ∷ lexed (at + 1) ((token_at (f.byte ∷ (f.others ++ rest))).1 - 1) (f.others ++ rest)) f.no_space
    ∙ ap (λ (r : Token × ℕ). placed at r ∷ lexed (at + 1) (r.1 - 1) (f.others ++ rest)) read
    ∙ ap (λ k. placed at (t, suc (length f.others)) ∷ lexed (at + 1) k (f.others ++ rest)) less
    ∙ ap (λ (l : List Placed). placed at (t, suc (length f.others)) ∷ l) (skips (length f.others) (at + 1) (f.others ++ rest))
    ∙ ap (λ (l : List ℕ). placed at (t, suc (length f.others)) ∷ lexed (at + 1 + length f.others) 0 l) (dropped f.others rest)
    ∙ ap (λ a. placed at (t, suc (length f.others)) ∷ lexed a 0 rest) place
    ∙ ap (λ n. placed at (t, n) ∷ lexed (at + length (token_text t)) 0 rest) (sym len)

spaced : (at : ℕ) (b : Bool) (bs : List ℕ) → lexed at 0 (space b ++ bs) ≡ lexed (at + one b) 0 bs
unfolding lexed
spaced at true bs = refl
spaced at false bs = let is : at ≡ at + 0 = omega arith in ap (λ a. lexed a 0 bs) is

-- tokens in the places that their text has for them, from this byte on, behind a word or behind none
abbrev pub spread : ℕ → Bool → List Token → List Placed
spread at w [] = []
spread at w (t ∷ ts) = placed (at + one (w && is_word t)) (t, length (token_text t)) ∷ spread (at + one (w && is_word t) + length (token_text t)) (is_word t) ts

pub toks_spread : (at : ℕ) (w : Bool) (ts : List Token) → toks (spread at w ts) ≡ ts
toks_spread at w [] = refl
toks_spread at w (t ∷ ts) = ap (λ (l : List Token). t ∷ l) (toks_spread (at + one (w && is_word t) + length (token_text t)) (is_word t) ts)

all_again : (ts : List Token) (j w : Bool) (at : ℕ) → Good j ts → lexed at 0 (text_behind w ts) ≡ spread at w ts
unfolding lexed
all_again [] j w at g = refl
all_again (t ∷ ts) j w at g =
    let rest = text_behind (is_word t) ts in
    let f = front t g.1 in
    let here = again t g.1 rest (clear (joins t) (is_word t) ts g.2) in
    let a = at + one (w && is_word t) in
    spaced at (w && is_word t) (token_text t ++ rest)
    ∙ one_again a t rest f here
    ∙ ap (λ (l : List Placed). placed a (t, length (token_text t)) ∷ l) (all_again ts (joins t) (is_word t) (a + length (token_text t)) g.2)

-- the tokens of their text are these tokens, in their places
pub tokens_spread : (ts : List Token) → Good false ts → tokens (text_of ts) ≡ spread 0 false ts
tokens_spread ts g = all_again ts false false 0 g

pub tokens_again : (ts : List Token) → Good false ts → toks (tokens (text_of ts)) ≡ ts
tokens_again ts g = ap toks (tokens_spread ts g) ∙ toks_spread 0 false ts
