-- The tokens of a text: each as long as it can be, at its position.
use Rattle.std.specs.Prelude.{ℕ, zero, suc, ◌+◌, ◌-◌, ◌*◌, ◌==◌, ◌&&◌, ◌||◌, Bool, false, List, [], ◌∷◌, codes, drop, length, min, nat_le, nat_lt, take, take_while, if◌then◌else◌}
use Rattle.std.specs.Str.{bytes_eq}
use Rattle.txn_types.specs.Values.{max_value}
use Rattle.contract_grammar.specs.declared.token.Mark.TheVariants.{WordOp, WordLet, WordRequire, WordIf, WordElse, WordRepeat, WordRecord, WordNumber, OpenBlock, CloseBlock, Colon, Comma, Semicolon, Becomes}
use Rattle.contract_grammar.specs.declared.token.Operator.TheVariants.{Or, And, Equal, NotEqual, Less, LessEqual, Greater, GreaterEqual, Plus, Minus, Times, Divide, Remainder}
use Rattle.contract_grammar.specs.declared.token.Token.{Token}
use Rattle.contract_grammar.specs.declared.token.Token.TheVariants.{Number, Named, Infix, Not, Open, Close, Fixed, Bad}
use Rattle.contract_grammar.specs.declared.token.Placed.{Placed}

-- a space, a tab, a line feed or a carriage return
abbrev pub is_space : ℕ → Bool
is_space b = ((b == 32) || (b == 9)) || ((b == 10) || (b == 13))

-- a to z
abbrev pub is_letter : ℕ → Bool
is_letter b = nat_le 97 b && nat_le b 122

-- 0 to 9
abbrev pub is_digit : ℕ → Bool
is_digit b = nat_le 48 b && nat_le b 57

-- a lower-case letter, a digit or `_`
abbrev pub is_name_byte : ℕ → Bool
is_name_byte b = is_letter b || (is_digit b || (b == 95))

-- the whole number that digits stand for, after the number n of those before them
abbrev pub decimal : ℕ → List ℕ → ℕ
decimal n [] = n
decimal n (d ∷ ds) = decimal (10 * n + (d - 48)) ds

-- the first byte is of this kind
abbrev pub begins : (ℕ → Bool) → List ℕ → Bool
begins kind [] = false
begins kind (b ∷ bs) = kind b

-- digits that begin with 0 are the number 0 alone
abbrev pub is_padded : List ℕ → Bool
is_padded digits = nat_lt 1 (length digits) && begins (λ b. b == 48) digits

-- digits make a number, unless they begin with a further 0 or a name byte follows them
unfoldable pub number_of : List ℕ → List ℕ → Token × ℕ
number_of digits behind = if is_padded digits || begins is_name_byte behind then (Bad, 1) else (Number (min (decimal 0 digits) (max_value + 1)), length digits)

-- the name of these bytes, of which it keeps the first 32
abbrev pub named : List ℕ → Token
named bytes = Named (take 32 bytes) (nat_lt 32 (length bytes))

-- a word that is in an expression, or a name
unfoldable pub word_in_expression : List ℕ → Token
word_in_expression bytes = if bytes_eq bytes (codes "and") then Infix And else (if bytes_eq bytes (codes "or") then Infix Or else (if bytes_eq bytes (codes "not") then Not else named bytes))

-- a word that begins a statement, or another one
unfoldable pub word_in_block : List ℕ → Token
word_in_block bytes = if bytes_eq bytes (codes "let") then Fixed WordLet else (if bytes_eq bytes (codes "require") then Fixed WordRequire else (if bytes_eq bytes (codes "if") then Fixed WordIf
    else (if bytes_eq bytes (codes "else") then Fixed WordElse else (if bytes_eq bytes (codes "repeat") then Fixed WordRepeat else word_in_expression bytes))))

-- a word that is before an operation's block, or another one, or a name
unfoldable pub word_of : List ℕ → Token
word_of bytes = if bytes_eq bytes (codes "op") then Fixed WordOp else (if bytes_eq bytes (codes "record") then Fixed WordRecord else (if bytes_eq bytes (codes "number") then Fixed WordNumber else word_in_block bytes))

-- a sign that no `=` can follow within one token
unfoldable pub single : ℕ → Token
single b = if b == 40 then Open else (if b == 41 then Close else (if b == 123 then Fixed OpenBlock else (if b == 125 then Fixed CloseBlock
    else (if b == 58 then Fixed Colon else (if b == 44 then Fixed Comma else (if b == 59 then Fixed Semicolon
    else (if b == 43 then Infix Plus else (if b == 45 then Infix Minus else (if b == 42 then Infix Times else (if b == 47 then Infix Divide else (if b == 37 then Infix Remainder else Bad)))))))))))

-- one token with a `=` after its first byte, another one without
abbrev pub with_equals : List ℕ → Token → Token → Token × ℕ
with_equals behind with_it alone = if begins (λ b. b == 61) behind then (with_it, 2) else (alone, 1)

-- the longest sign that begins with this byte, and its length
unfoldable pub sign_at : ℕ → List ℕ → Token × ℕ
sign_at b behind = if b == 61 then with_equals behind (Infix Equal) (Fixed Becomes) else (if b == 33 then with_equals behind (Infix NotEqual) Bad
    else (if b == 60 then with_equals behind (Infix LessEqual) (Infix Less) else (if b == 62 then with_equals behind (Infix GreaterEqual) (Infix Greater) else (single b, 1))))

-- the longest run of digits
abbrev pub digits_at : List ℕ → List ℕ
digits_at bytes = take_while is_digit bytes

-- the longest run of name bytes
abbrev pub name_at : List ℕ → List ℕ
name_at bytes = take_while is_name_byte bytes

-- the longest token that begins with the first byte, and its length
unfoldable pub token_at : List ℕ → Token × ℕ
token_at [] = (Bad, 1)
token_at (b ∷ behind) = if is_letter b then (word_of (name_at (b ∷ behind)), length (name_at (b ∷ behind)))
    else (if is_digit b then number_of (digits_at (b ∷ behind)) (drop (length (digits_at (b ∷ behind))) (b ∷ behind)) else sign_at b behind)

-- a token of this length at its position
abbrev pub placed : ℕ → Token × ℕ → Placed
placed at (token, len) = record { span = record { start = at; end = at + len }; token = token }

-- the tokens from this byte on, where skip bytes still belong to the last one
unfoldable pub lexed : ℕ → ℕ → List ℕ → List Placed
lexed at skip [] = []
lexed at (suc skip) (b ∷ bs) = lexed (at + 1) skip bs
lexed at zero (b ∷ bs) = if is_space b then lexed (at + 1) 0 bs else placed at (token_at (b ∷ bs)) ∷ lexed (at + 1) ((token_at (b ∷ bs)).1 - 1) bs

-- the tokens of a text
abbrev pub tokens : List ℕ → List Placed
tokens text = lexed 0 0 text
