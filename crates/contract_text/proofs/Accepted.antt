-- The operations of a contract's text are lawful.
use Rattle.std.proofs.Common.{◌≡◌, ◌≢◌, ◌==◌, ◌||◌, codes, min, ℕ, zero, suc, ◌+◌, ◌-◌, ◌<◌, Bool, true, false, cond, List, [], ◌∷◌, ◌++◌, length, map, Result, Ok, Err, IfOk, refl, arith, if◌then◌else◌}
use Rattle.std.specs.List.{All}
use Rattle.std.proofs.lemmas.Bool.Decides.{nat_tests}
use Rattle.std.proofs.lemmas.List.{length-map}
use Rattle.std.proofs.lemmas.List.Elements.{All-append, All-cons, All-map, All-nil}
use Rattle.std.proofs.lemmas.List.Sums.{take_while-cons}
use Rattle.txn_types.specs.Values.{max_value}
use Rattle.txn_types.specs.Names.{BeginsLower, IsName, IsNameByte}
use Rattle.contract_grammar.specs.declared.tree.Head.{Head}
use Rattle.contract_grammar.specs.declared.token.Mark.TheVariants.{WordOp, WordLet, WordRequire, WordIf, WordElse, WordRepeat, WordRecord, WordNumber, OpenBlock, CloseBlock, Colon, Comma, Semicolon, Becomes}
use Rattle.contract_grammar.specs.declared.token.Operator.TheVariants.{Or, And, Equal, NotEqual, Less, LessEqual, Greater, GreaterEqual, Plus, Minus, Times, Divide, Remainder}
use Rattle.contract_grammar.specs.declared.token.Placed.{Placed}
use Rattle.std.specs.Str.{bytes_eq}
use Rattle.contract_grammar.specs.declared.token.Token.{Token}
use Rattle.contract_grammar.specs.declared.token.Token.TheVariants.{Number, Named, Infix, Not, Open, Close, Fixed, Bad}
use Rattle.contract_grammar.specs.Tree as raw
use Rattle.contract_grammar.specs.Lexer.{is_padded, begins, decimal, is_letter, is_digit, is_name_byte, is_space, name_at, number_of, named, word_in_expression, word_in_block, word_of, with_equals, single, sign_at, token_at, placed, lexed, tokens}
use Rattle.contract_grammar.specs.Grammar.{SpellsHead, without, with, SpellsOp, of_op, SpellsOps, no_ops, more_ops}
use Rattle.contract_grammar.proofs.Lexing.{is_name, all_names}
use Rattle.oxii_defs.specs.Syntax.{Op}
use Rattle.txn_core.specs.Meant.{op_of}
use Rattle.contract_text.specs.declared.faults.Contract.{Contract}
use Rattle.contract_text.specs.declared.faults.TextFault.{TextFault}
use Rattle.contract_text.specs.Typed.{typed_op}
use Rattle.contract_text.specs.TextMeaning.{IsContract}
use Rattle.contract_text.specs.Verdict.{verdict, GivesVerdict}
use Rattle.contract_text.specs.Laws.{AreLawfulOps}
use Rattle.contract_text.proofs.Judged.{contract_of, contract_fine}

-- ---- the names of tokens

-- a name that a token has is one
abbrev NamesName : Token → Type 0
NamesName (Named x long) = IsName x
NamesName _ = Unit {0}

record IsNamed (t : Token) : Type 0 where
  name : NamesName t

either : (b : Bool) (s t : Token) → IsNamed s → IsNamed t → IsNamed (if b then s else t)
either true s t h k = h
either false s t h k = k

unless : (b : Bool) (s : Token) {t : Token} → NamesName s → IsNamed t → IsNamed (if b then s else t)
unless b s {t} h k = either b s t (record { name = h }) k

letter_begins : (b : ℕ) (rest : List ℕ) (t : Bool) → is_letter b ≡ true → is_name_byte b ≡ t → BeginsLower (cond t (b ∷ rest) [])
letter_begins b rest true h is = grind (arith, nat_tests)
letter_begins b rest false h is = absurd (grind (arith, nat_tests))

named_names : (bytes : List ℕ) → BeginsLower bytes → All IsNameByte bytes → IsNamed (named bytes)
named_names bytes first all = record { name = is_name bytes 32 (omega arith) (omega arith) first all }

module _ (bytes : List ℕ) (h : IsNamed (named bytes)) where
  expression_names : IsNamed (word_in_expression bytes)
  unfolding word_in_expression
  expression_names = unless (bytes_eq bytes (codes "and")) (Infix And) tt (unless (bytes_eq bytes (codes "or")) (Infix Or) tt (unless (bytes_eq bytes (codes "not")) Not tt (h)))

  block_names : IsNamed (word_in_block bytes)
  unfolding word_in_block
  block_names = unless (bytes_eq bytes (codes "let")) (Fixed WordLet) tt (unless (bytes_eq bytes (codes "require")) (Fixed WordRequire) tt (unless (bytes_eq bytes (codes "if")) (Fixed WordIf) tt (unless (bytes_eq bytes (codes "else")) (Fixed WordElse) tt (unless (bytes_eq bytes (codes "repeat")) (Fixed WordRepeat) tt (expression_names)))))

  word_names : IsNamed (word_of bytes)
  unfolding word_of
  word_names = unless (bytes_eq bytes (codes "op")) (Fixed WordOp) tt (unless (bytes_eq bytes (codes "record")) (Fixed WordRecord) tt (unless (bytes_eq bytes (codes "number")) (Fixed WordNumber) tt (block_names)))

-- the same of a token and its length
record IsRead (read : Token × ℕ) : Type 0 where
  token : IsNamed read.0

either_read : (b : Bool) {s t : Token × ℕ} → IsRead s → IsRead t → IsRead (if b then s else t)
either_read true h k = h
either_read false h k = k

read : (t : Token) (n : ℕ) → NamesName t → IsRead (t, n)
read t n h = record { token = record { name = h } }

number_names : (digits behind : List ℕ) → IsRead (number_of digits behind)
unfolding number_of
number_names digits behind = either_read (is_padded digits || begins is_name_byte behind) (read Bad 1 tt) (read (Number (min (decimal 0 digits) (max_value + 1))) (length digits) tt)

with_equals_names : (behind : List ℕ) (s t : Token) → NamesName s → NamesName t → IsRead (with_equals behind s t)
with_equals_names behind s t h k = either_read (begins (λ b. b == 61) behind) (read s 2 h) (read t 1 k)

single_names : (b : ℕ) → IsNamed (single b)
unfolding single
single_names b = unless (b == 40) Open tt (unless (b == 41) Close tt (unless (b == 123) (Fixed OpenBlock) tt (unless (b == 125) (Fixed CloseBlock) tt (unless (b == 58) (Fixed Colon) tt (unless (b == 44) (Fixed Comma) tt (unless (b == 59) (Fixed Semicolon) tt (unless (b == 43) (Infix Plus) tt (unless (b == 45) (Infix Minus) tt (unless (b == 42) (Infix Times) tt (unless (b == 47) (Infix Divide) tt (unless (b == 37) (Infix Remainder) tt (record { name = tt }))))))))))))

sign_names : (b : ℕ) (behind : List ℕ) → IsRead (sign_at b behind)
unfolding sign_at
sign_names b behind = either_read (b == 61) (with_equals_names behind (Infix Equal) (Fixed Becomes) tt tt) (either_read (b == 33) (with_equals_names behind (Infix NotEqual) Bad tt tt)
    (either_read (b == 60) (with_equals_names behind (Infix LessEqual) (Infix Less) tt tt) (either_read (b == 62) (with_equals_names behind (Infix GreaterEqual) (Infix Greater) tt tt) (record { token = single_names b }))))

letter_names : (b : ℕ) (behind : List ℕ) → is_letter b ≡ true → IsNamed (word_of (name_at (b ∷ behind)))
letter_names b behind h =
    word_names (name_at (b ∷ behind)) (named_names (name_at (b ∷ behind)) (rw (take_while-cons is_name_byte b behind) (letter_begins b _ (is_name_byte b) h refl)) (all_names (b ∷ behind)))

word_read : (b : ℕ) (behind : List ℕ) (t : Bool) (other : Token × ℕ) → is_letter b ≡ t → IsRead other
    → IsRead (if t then (word_of (name_at (b ∷ behind)), length (name_at (b ∷ behind))) else other)
word_read b behind true other is h = record { token = letter_names b behind is }
word_read b behind false other is h = h

token_read : (bytes : List ℕ) → IsRead (token_at bytes)
unfolding token_at
token_read [] = read Bad 1 tt
token_read (b ∷ behind) = word_read b behind (is_letter b) _ refl (either_read (is_digit b) (number_names _ _) (sign_names b behind))

-- ---- the names of a text

abbrev AreNamed : List Placed → Type 0
AreNamed [] = Unit {0}
AreNamed (k ∷ ks) = NamesName k.token × AreNamed ks

placed_or_not : (b : Bool) (k : Placed) (ks rest : List Placed) → NamesName k.token → AreNamed ks → AreNamed rest → AreNamed (if b then rest else k ∷ ks)
placed_or_not true k ks rest h hs others = others
placed_or_not false k ks rest h hs others = (h, hs)

lexed_named : (at skip : ℕ) (bytes : List ℕ) → AreNamed (lexed at skip bytes)
unfolding lexed
lexed_named at skip [] = tt
lexed_named at (suc skip) (b ∷ bs) = lexed_named (at + 1) skip bs
lexed_named at zero (b ∷ bs) = placed_or_not (is_space b) (placed at (token_at (b ∷ bs))) _ _ (token_read (b ∷ bs)).token.name
    (lexed_named (at + 1) ((token_at (b ∷ bs)).1 - 1) bs) (lexed_named (at + 1) 0 bs)

named_parts : (xs ys : List Placed) → AreNamed (xs ++ ys) → AreNamed xs × AreNamed ys
named_parts [] ys h = (tt, h)
named_parts (x ∷ xs) ys h = let rest = named_parts xs ys h.1 in ((h.0, rest.0), rest.1)

-- ---- the names of operations

head_named : (ts : List Placed) (head : Head) → SpellsHead ts head → AreNamed ts → IsName head.name
head_named _ _ without h = h.1.0
head_named _ _ (with z params) h = h.1.0

op_named : (ts : List Placed) (o : raw.Op) → SpellsOp ts o → AreNamed ts → IsName o.head.name
op_named _ _ (of_op {hs = hs} {bs = bs} {h = head} spells body) h = head_named hs head spells (named_parts hs bs h).0

ops_named : (ts : List Placed) (os : List raw.Op) → SpellsOps ts os → AreNamed ts → All (λ o. IsName o.head.name) os
ops_named _ _ no_ops h = All-nil (λ o. IsName o.head.name)
ops_named _ _ (more_ops {xs = xs} {ys = ys} {os = os} {o = o} spells one) h =
    let parts = named_parts xs ys h in
    All-append (λ o. IsName o.head.name) os (o ∷ []) (ops_named xs os spells parts.0) (All-cons (λ o. IsName o.head.name) o [] (op_named ys o one parts.1) (All-nil (λ o. IsName o.head.name)))

typed_named : (os : List raw.Op) → All (λ o. IsName o.head.name) os → All (λ op. IsName op.name) (map typed_op os)
typed_named os h = All-map (λ op. IsName op.name) typed_op os h

some_operations : (os : List raw.Op) → os ≢ [] → 0 < length os
some_operations [] h = absurd (h refl)
some_operations (o ∷ os) h = omega arith

-- ---- what is accepted

pub accepted_lawful : (text : List ℕ) (ops : List Op) → IsContract text ops → AreLawfulOps ops
accepted_lawful text ops contract =
    let fine = contract_fine text ops contract in
    record {
      count = (rw (contract.stands, length-map contract.operations typed_op) (some_operations contract.operations contract.spelled.1), fine.count);
      named = rw contract.stands (typed_named contract.operations (ops_named (tokens text) contract.operations contract.spelled.0 (lexed_named 0 0 text)));
      names = fine.names;
      fine = fine.each;
    }

pub given_lawful : (text : List ℕ) (answer : Result Contract TextFault) → GivesVerdict answer (verdict text) → IfOk answer (λ contract. AreLawfulOps (map op_of contract.ops))
given_lawful text (Ok contract) h = accepted_lawful text (map op_of contract.ops) (contract_of text _ h)
given_lawful text (Err f) h = tt
