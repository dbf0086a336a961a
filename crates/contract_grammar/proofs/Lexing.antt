-- Numbers, names and turns of the lexer.
use Rattle.std.proofs.Common.{◌≡◌, ℕ, zero, suc, ◌+◌, ◌-◌, ◌*◌, ◌<◌, ◌≤◌, inl, inr, Bool, true, false, cond, List, [], ◌∷◌, ◌++◌, length, get_or, take, drop, drop-cons, add-one, min, refl, sym, ap, ◌∙◌, append_assoc, arith}
use Rattle.std.specs.List.{All}
use Rattle.std.proofs.lemmas.Bool.{cases_lt}
use Rattle.std.proofs.lemmas.List.Elements.{All-take, All-cons, All-nil}
use Rattle.std.proofs.lemmas.List.Sums.{take_while-cons}
use Rattle.std.proofs.lemmas.List.Folds.{length-prefix_len}
use Rattle.std.proofs.lemmas.Bool.Decides.{nat_tests}
use Rattle.std.specs.Prelude.{take_while}
use Rattle.std.proofs.lemmas.List.{length-take, take_all}
use Rattle.txn_types.specs.Values.{max_value}
use Rattle.txn_types.specs.Names.{BeginsLower, IsName, IsNameByte}
use Rattle.contract_grammar.specs.declared.token.Placed.{Placed}
use Rattle.contract_grammar.specs.declared.token.Token.{Token}
use Rattle.contract_grammar.specs.Lexer.{is_space, is_name_byte, decimal, token_at, placed, lexed}

decimal_grows : (n : ℕ) (ds : List ℕ) → n ≤ decimal n ds
decimal_grows n [] = omega arith
decimal_grows n (d ∷ ds) = let more = decimal_grows (10 * n + (d - 48)) ds in omega arith

-- a number from 2 ^ 62 on stays there
pub capped : (n : ℕ) (ds : List ℕ) → min (decimal (min n (max_value + 1)) ds) (max_value + 1) ≡ min (decimal n ds) (max_value + 1)
capped n ds = elim (cases_lt n (max_value + 1)) [
  | inl lt ↦ let is : min n (max_value + 1) ≡ n = omega arith in rw is refl
  | inr ge ↦
      let is : min n (max_value + 1) ≡ (max_value + 1) = omega arith in
      let one = decimal_grows n ds in
      let two = decimal_grows (max_value + 1) ds in
      rw is (omega arith)
]

pub number_turn : (ds : List ℕ) (i : ℕ) (n : ℕ) → i < length ds
    → min (decimal (min (10 * n + (get_or ds i 0 - 48)) (max_value + 1)) (drop (i + 1) ds)) (max_value + 1) ≡ min (decimal n (drop i ds)) (max_value + 1)
number_turn ds i n lt = capped (10 * n + (get_or ds i 0 - 48)) (drop (i + 1) ds) ∙ rw (add-one, drop-cons ds i 0 lt) refl

begins_taken : (n : ℕ) (bs : List ℕ) → 0 < n → BeginsLower bs → BeginsLower (take n bs)
begins_taken n [] gt h = absurd h
begins_taken zero (b ∷ bs) gt h = absurd (omega arith)
begins_taken (suc n) (b ∷ bs) gt h = h

pub is_name : (bs : List ℕ) (n : ℕ) → 0 < n → n ≤ 32 → BeginsLower bs → All IsNameByte bs → IsName (take n bs)
is_name bs n gt le h all = (omega (arith, length-take n bs), begins_taken n bs gt h, All-take IsNameByte n bs all)

pub take_min : (bs : List ℕ) → take (min (length bs) 32) bs ≡ take 32 bs
take_min bs = elim (cases_lt (length bs) 32) [
  | inl lt ↦ let is : min (length bs) 32 ≡ length bs = omega arith in rw (is, take_all (length bs) bs (omega arith), take_all 32 bs (omega arith)) refl
  | inr ge ↦ let is : min (length bs) 32 ≡ 32 = omega arith in rw is refl
]

pub take_run : (p : ℕ → Bool) (bs : List ℕ) → take (length (take_while p bs)) bs ≡ take_while p bs
take_run p bs = rw (length-prefix_len p bs) refl

is_name_byte_of : (b : ℕ) → is_name_byte b ≡ true → IsNameByte b
is_name_byte_of b h = grind (arith, nat_tests)

all_by_test : (b : ℕ) (rest : List ℕ) (t : Bool) → is_name_byte b ≡ t → All IsNameByte rest → All IsNameByte (cond t (b ∷ rest) [])
all_by_test b rest true h all = All-cons IsNameByte b rest (is_name_byte_of b h) all
all_by_test b rest false h all = All-nil IsNameByte

pub all_names : (bs : List ℕ) → All IsNameByte (take_while is_name_byte bs)
all_names [] = All-nil IsNameByte
all_names (b ∷ bs) = rw (take_while-cons is_name_byte b bs) (all_by_test b (take_while is_name_byte bs) (is_name_byte b) refl (all_names bs))

-- ---- the turns of the loop over the bytes

module _ (ts : List ℕ) (i : ℕ) (lt : i < length ts) where
  here : drop i ts ≡ get_or ts i 0 ∷ drop (i + 1) ts
  here = rw add-one (drop-cons ts i 0 lt)

  skipped : (k : ℕ) → lexed i (suc k) (drop i ts) ≡ lexed (i + 1) k (drop (i + 1) ts)
  unfolding lexed
  skipped k = rw here refl

  pub skips : (k : ℕ) → 0 < k → lexed i k (drop i ts) ≡ lexed (i + 1) (k - 1) (drop (i + 1) ts)
  skips zero h = absurd (omega arith)
  skips (suc k) h = let is : suc k - 1 ≡ k = omega arith in rw is (skipped k)

  pub spaces : is_space (get_or ts i 0) ≡ true → lexed i 0 (drop i ts) ≡ lexed (i + 1) 0 (drop (i + 1) ts)
  unfolding lexed
  spaces h = rw (here, h) refl

  pub takes : is_space (get_or ts i 0) ≡ false → lexed i 0 (drop i ts) ≡ placed i (token_at (drop i ts)) ∷ lexed (i + 1) ((token_at (drop i ts)).1 - 1) (drop (i + 1) ts)
  unfolding lexed
  takes h = rw (here, h) refl

module _ (ts : List ℕ) (i : ℕ) (lt : i < length ts) (out total : List Placed) where
  pub turn_skips : (k : ℕ) → 0 < k → out ++ lexed i k (drop i ts) ≡ total → out ++ lexed (i + 1) (k - 1) (drop (i + 1) ts) ≡ total
  turn_skips k h so_far = ap (λ w. out ++ w) (sym (skips ts i lt k h)) ∙ so_far

  pub turn_spaces : (k : ℕ) → k ≤ 0 → is_space (get_or ts i 0) ≡ true → out ++ lexed i k (drop i ts) ≡ total → out ++ lexed (i + 1) k (drop (i + 1) ts) ≡ total
  turn_spaces k le h so_far = let is : k ≡ 0 = omega arith in rw is (ap (λ w. out ++ w) (sym (spaces ts i lt h)) ∙ rw is at so_far)

  pub turn_takes : (k : ℕ) (read : Token × ℕ) → k ≤ 0 → is_space (get_or ts i 0) ≡ false → read ≡ token_at (drop i ts) → out ++ lexed i k (drop i ts) ≡ total
      → (out ++ placed i read ∷ []) ++ lexed (i + 1) (read.1 - 1) (drop (i + 1) ts) ≡ total
  turn_takes k read le h is so_far = let none : k ≡ 0 = omega arith in
      rw (is, append_assoc) (ap (λ w. out ++ w) (sym (takes ts i lt h)) ∙ rw none at so_far)
