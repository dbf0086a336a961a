-- Whole tokens: which bytes are read as a token again.
use Rattle.std.proofs.Common.{◌≡◌, ℕ, zero, suc, ◌+◌, ◌-◌, ◌*◌, ◌/◌, ◌%◌, ◌<◌, ◌≤◌, ◌^◌, ◌==◌, Bool, true, false, cond, List, [], ◌∷◌, ◌++◌, length, drop, min, refl, sym, ap, ◌∙◌, arith, length-append, nat_lt, if◌then◌else◌}
use Rattle.std.specs.Prelude.{take_while, decimal as decimal_text}
use Rattle.std.proofs.lemmas.Bool.{or_parts}
use Rattle.std.proofs.lemmas.Bool.Decides.{nat_tests}
use Rattle.std.proofs.lemmas.Fmt.{decimal_by_steps}
use Rattle.std.proofs.lemmas.List.Sums.{take_while-cons}
use Rattle.txn_types.specs.Values.{max_value}
use Rattle.contract_grammar.specs.declared.token.Token.{Token}
use Rattle.contract_grammar.specs.declared.token.Token.TheVariants.{Number}
use Rattle.contract_grammar.specs.Lexer.{is_letter, is_digit, is_name_byte, decimal, begins, is_padded, number_of, word_of, token_at}
use Rattle.contract_printer.proofs.Between.{and_false}

-- ---- runs of bytes

abbrev cons : ℕ → List ℕ → List ℕ
cons b bs = b ∷ bs

rest_same : (a b : ℕ) (xs ys : List ℕ) → cons a xs ≡ cons b ys → xs ≡ ys
rest_same a b xs ys h = cc

none_some : {A : Type 0} (b : ℕ) (bs : List ℕ) → ◌≡◌ {A = List ℕ} [] (cons b bs) → A
none_some b bs h = absurd cc

module _ (p : ℕ → Bool) where
  record Passes (b : ℕ) (bs : List ℕ) : Type 0 where
    first : p b ≡ true
    others : take_while p bs ≡ bs

  passes : (b : ℕ) (bs : List ℕ) → take_while p (b ∷ bs) ≡ b ∷ bs → Passes b bs
  passes b bs h = by (p b) refl (sym (take_while-cons p b bs) ∙ h)
    where
      by : (t : Bool) → p b ≡ t → cond t (b ∷ take_while p bs) [] ≡ b ∷ bs → Passes b bs
      by true is e = record { first = is; others = rest_same b b _ _ e }
      by false is e = none_some b bs e

  run_stops : (rest : List ℕ) → begins p rest ≡ false → take_while p rest ≡ []
  run_stops [] h = refl
  run_stops (b ∷ rest) h = take_while-cons p b rest ∙ ap (λ t. cond t (b ∷ take_while p rest) []) h

  -- a run ends where the bytes behind it begin otherwise
  pub run_is : (bs rest : List ℕ) → take_while p bs ≡ bs → begins p rest ≡ false → take_while p (bs ++ rest) ≡ bs
  run_is [] rest h k = run_stops rest k
  run_is (b ∷ bs) rest h k =
      let q = passes b bs h in
      take_while-cons p b (bs ++ rest) ∙ ap (λ t. cond t (b ∷ take_while p (bs ++ rest)) []) q.first ∙ ap (λ (l : List ℕ). b ∷ l) (run_is bs rest q.others k)

  pub run_front : (b : ℕ) (bs : List ℕ) → take_while p (b ∷ bs) ≡ b ∷ bs → p b ≡ true
  run_front b bs h = (passes b bs h).first

  pub run_grows : (bs : List ℕ) (b : ℕ) → take_while p bs ≡ bs → p b ≡ true → take_while p (bs ++ b ∷ []) ≡ bs ++ b ∷ []
  run_grows [] b h k = take_while-cons p b [] ∙ ap (λ t. cond t (b ∷ take_while p []) []) k
  run_grows (c ∷ bs) b h k =
      let q = passes c bs h in
      take_while-cons p c (bs ++ b ∷ []) ∙ ap (λ t. cond t (c ∷ take_while p (bs ++ b ∷ [])) []) q.first ∙ ap (λ (l : List ℕ). c ∷ l) (run_grows bs b q.others k)

  -- a run is a run
  pub run_again : (bs : List ℕ) → take_while p (take_while p bs) ≡ take_while p bs
  run_again [] = refl
  run_again (b ∷ bs) = by (p b) refl (run_again bs)
    where
      by : (t : Bool) → p b ≡ t → take_while p (take_while p bs) ≡ take_while p bs → take_while p (take_while p (b ∷ bs)) ≡ take_while p (b ∷ bs)
      by true is again =
          let one : take_while p (b ∷ bs) ≡ b ∷ take_while p bs = take_while-cons p b bs ∙ ap (λ t. cond t (b ∷ take_while p bs) []) is in
          ap (take_while p) one ∙ take_while-cons p b (take_while p bs) ∙ ap (λ t. cond t (b ∷ take_while p (take_while p bs)) []) is ∙ ap (λ (l : List ℕ). b ∷ l) again ∙ sym one
      by false is again =
          let one : take_while p (b ∷ bs) ≡ [] = take_while-cons p b bs ∙ ap (λ t. cond t (b ∷ take_while p bs) []) is in
          ap (take_while p) one ∙ sym one

-- ---- words

-- the bytes of a word or a name, and its token
pub record IsWordText (bs : List ℕ) (t : Token) : Type 0 where
  pub first : begins is_letter bs ≡ true
  pub run : take_while is_name_byte bs ≡ bs
  pub is : word_of bs ≡ t

pick : {A : Type 0} (t : Bool) (x y : A) → t ≡ true → (if t then x else y) ≡ x
pick t x y h = rw h refl

pub pick_other : {A : Type 0} (t : Bool) (x y : A) → t ≡ false → (if t then x else y) ≡ y
pick_other t x y h = rw h refl

pub word_again : (bs rest : List ℕ) (t : Token) → IsWordText bs t → begins is_name_byte rest ≡ false → token_at (bs ++ rest) ≡ (t, length bs)
unfolding token_at
word_again [] rest t h k = let no_byte : false ≡ true = h.first in absurd cc
word_again (b ∷ bs) rest t h k =
    pick (is_letter b) _ _ h.first ∙ ap (λ (l : List ℕ). (word_of l, length l)) (run_is is_name_byte (b ∷ bs) rest h.run k) ∙ (λ i. (h.is i, length (b ∷ bs)))

-- ---- numbers

-- the digits of a number
pub record IsNumber (n : ℕ) (ds : List ℕ) : Type 0 where
  pub value : decimal 0 ds ≡ n
  pub run : take_while is_digit ds ≡ ds
  pub some : 0 < length ds
  pub zero_alone : n ≡ 0 → length ds ≡ 1
  pub not_padded : 0 < n → begins (λ b. b == 48) ds ≡ false

decimal-one : (m : ℕ) (ds : List ℕ) (d : ℕ) → decimal m (ds ++ d ∷ []) ≡ 10 * decimal m ds + (d - 48)
decimal-one m [] d = refl
decimal-one m (e ∷ ds) d = decimal-one (10 * m + (e - 48)) ds d

digit_is : (n : ℕ) → n < 10 → is_digit (48 + n) ≡ true
digit_is n lt = grind (arith, nat_tests)

one_digit : (n : ℕ) → n < 10 → IsNumber n ((48 + n) ∷ [])
one_digit n lt = record {
  value = omega arith;
  run = run_grows is_digit [] (48 + n) refl (digit_is n lt);
  some = omega arith;
  zero_alone = λ h. refl;
  not_padded = λ gt. not_zero n gt;
}
  where
    not_zero : (n : ℕ) → 0 < n → ((48 + n) == 48) ≡ false
    not_zero n gt = grind (arith, nat_tests)

begins_still : (p : ℕ → Bool) (ds : List ℕ) (d : ℕ) → 0 < length ds → begins p (ds ++ d ∷ []) ≡ begins p ds
begins_still p [] d lt = absurd (omega (arith, lt))
begins_still p (e ∷ ds) d lt = refl

one_more : (n : ℕ) (ds : List ℕ) → 10 ≤ n → IsNumber (n / 10) ds → IsNumber n (ds ++ (48 + n % 10) ∷ [])
one_more n ds ge h =
    let small : n % 10 < 10 = omega arith in
    record {
      value = decimal-one 0 ds (48 + n % 10) ∙ omega (arith, h.value);
      run = run_grows is_digit ds (48 + n % 10) h.run (digit_is (n % 10) small);
      some = omega (arith, length-append ds ((48 + n % 10) ∷ []));
      zero_alone = λ is. absurd (omega (arith, is, ge));
      not_padded = λ gt. begins_still (λ b. b == 48) ds (48 + n % 10) h.some ∙ h.not_padded (omega arith);
    }

pub digits_of_number : (n : ℕ) → n < 2 ^ 64 → IsNumber n (decimal_text n)
digits_of_number n lt = decimal_by_steps IsNumber one_digit one_more n lt

unpadded : (n : ℕ) (ds : List ℕ) → IsNumber n ds → is_padded ds ≡ false
unpadded zero ds h = rw (h.zero_alone refl) refl
unpadded (suc n) ds h = rw (h.not_padded (omega arith)) (and_false (nat_lt 1 (length ds)))

digit_no_letter : (b : ℕ) → is_digit b ≡ true → is_letter b ≡ false
digit_no_letter b h = grind (arith, nat_tests)

digit_no_name : (rest : List ℕ) → begins is_name_byte rest ≡ false → begins is_digit rest ≡ false
digit_no_name [] h = refl
digit_no_name (b ∷ rest) h = (or_parts _ _ (or_parts _ _ h).1).0

pub dropped : (xs ys : List ℕ) → drop (length xs) (xs ++ ys) ≡ ys
dropped [] ys = refl
dropped (x ∷ xs) ys = dropped xs ys

number_is : (n : ℕ) (ds rest : List ℕ) → n < max_value + 1 → IsNumber n ds → begins is_name_byte rest ≡ false → number_of ds rest ≡ (Number n, length ds)
unfolding number_of
number_is n ds rest small h k = let capped : min n (max_value + 1) ≡ n = omega arith in rw (unpadded n ds h, k, h.value, capped) refl

number_by : (n : ℕ) (ds rest : List ℕ) → n < max_value + 1 → IsNumber n ds → begins is_name_byte rest ≡ false → token_at (ds ++ rest) ≡ (Number n, length ds)
unfolding token_at
number_by n [] rest small h k = absurd (omega (arith, h.some))
number_by n (d ∷ ds) rest small h k =
    let digit = run_front is_digit d ds h.run in
    pick_other (is_letter d) _ _ (digit_no_letter d digit)
    ∙ pick (is_digit d) _ _ digit
    ∙ ap (λ (l : List ℕ). number_of l (drop (length l) (d ∷ (ds ++ rest)))) (run_is is_digit (d ∷ ds) rest h.run (digit_no_name rest k))
    ∙ ap (λ (l : List ℕ). number_of (d ∷ ds) l) (dropped (d ∷ ds) rest)
    ∙ number_is n (d ∷ ds) rest small h k

pub number_again : (n : ℕ) (rest : List ℕ) → n < max_value + 1 → begins is_name_byte rest ≡ false → token_at (decimal_text n ++ rest) ≡ (Number n, length (decimal_text n))
number_again n rest small k = number_by n (decimal_text n) rest small (digits_of_number n (omega arith)) k
