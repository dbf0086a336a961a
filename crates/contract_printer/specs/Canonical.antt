-- The canonical text of a contract: its tokens, with one space between two that are both names, words or numbers, and nothing else between them.
use Rattle.std.specs.Prelude.{ℕ, ◌&&◌, Bool, true, false, List, [], ◌∷◌, ◌++◌, codes, decimal, map}
use Rattle.contract_grammar.specs.declared.token.Mark.{Mark}
use Rattle.contract_grammar.specs.declared.token.Mark.TheVariants.{WordOp, WordLet, WordRequire, WordIf, WordElse, WordRepeat, WordRecord, WordNumber, OpenBlock, CloseBlock, Colon, Comma, Semicolon, Becomes}
use Rattle.contract_grammar.specs.declared.token.Operator.{Operator}
use Rattle.contract_grammar.specs.declared.token.Operator.TheVariants.{Or, And, Equal, NotEqual, Less, LessEqual, Greater, GreaterEqual, Plus, Minus, Times, Divide, Remainder}
use Rattle.contract_grammar.specs.declared.token.Token.{Token}
use Rattle.contract_grammar.specs.declared.token.Token.TheVariants.{Number, Named, Infix, Not, Open, Close, Fixed, Bad}
use Rattle.oxii_defs.specs.Syntax.{Op}
use Rattle.contract_printer.specs.Plain.{plain_op}
use Rattle.contract_printer.specs.Printed.{printed_ops}

-- an operator that is a word
abbrev pub is_word_operator : Operator → Bool
is_word_operator Or = true
is_word_operator And = true
is_word_operator _ = false

abbrev pub is_word_mark : Mark → Bool
is_word_mark OpenBlock = false
is_word_mark CloseBlock = false
is_word_mark Colon = false
is_word_mark Comma = false
is_word_mark Semicolon = false
is_word_mark Becomes = false
is_word_mark _ = true

-- a name, a word or a number
abbrev pub is_word : Token → Bool
is_word (Number n) = true
is_word (Named x long) = true
is_word (Infix op) = is_word_operator op
is_word Not = true
is_word (Fixed m) = is_word_mark m
is_word _ = false

abbrev pub operator_text : Operator → List ℕ
operator_text Or = codes "or"
operator_text And = codes "and"
operator_text Equal = codes "=="
operator_text NotEqual = codes "!="
operator_text Less = codes "<"
operator_text LessEqual = codes "<="
operator_text Greater = codes ">"
operator_text GreaterEqual = codes ">="
operator_text Plus = codes "+"
operator_text Minus = codes "-"
operator_text Times = codes "*"
operator_text Divide = codes "/"
operator_text Remainder = codes "%"

abbrev pub mark_text : Mark → List ℕ
mark_text WordOp = codes "op"
mark_text WordLet = codes "let"
mark_text WordRequire = codes "require"
mark_text WordIf = codes "if"
mark_text WordElse = codes "else"
mark_text WordRepeat = codes "repeat"
mark_text WordRecord = codes "record"
mark_text WordNumber = codes "number"
mark_text OpenBlock = codes "{"
mark_text CloseBlock = codes "}"
mark_text Colon = codes ":"
mark_text Comma = codes ","
mark_text Semicolon = codes ";"
mark_text Becomes = codes "="

-- the bytes of a token
abbrev pub token_text : Token → List ℕ
token_text (Number n) = decimal n
token_text (Named x long) = x
token_text (Infix op) = operator_text op
token_text Not = codes "not"
token_text Open = codes "("
token_text Close = codes ")"
token_text (Fixed m) = mark_text m
token_text Bad = []

abbrev pub space : Bool → List ℕ
space true = 32 ∷ []
space false = []

-- the text of tokens after a word, or after no word
abbrev pub text_behind : Bool → List Token → List ℕ
text_behind word [] = []
text_behind word (t ∷ ts) = space (word && is_word t) ++ (token_text t ++ text_behind (is_word t) ts)

-- the text of tokens
abbrev pub text_of : List Token → List ℕ
text_of ts = text_behind false ts

-- the canonical text of operations
unfoldable pub canonical : List Op → List ℕ
canonical ops = text_of (printed_ops (map plain_op ops))
