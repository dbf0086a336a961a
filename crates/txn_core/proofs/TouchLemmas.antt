-- Bits of a word, and positions that are marked at the records which they touch.
use Rattle.std.proofs.Common.{◌≡◌, ◌<◌, ◌≤◌, ◌+◌, ◌-◌, ◌*◌, ◌/◌, ◌%◌, ◌^◌, ◌⊎◌, inl, inr, ℕ, zero, suc, Bool, true, false, ◌||◌, List, [], ◌∷◌, length, take, drop, get_or, bit_or, refl, sym, ap, ◌∙◌, subst, arith}
use Rattle.std.specs.List.{All, AllByRecursion}
use Rattle.std.specs.Int.{bit_at, w64, trailing_zeros}
use Rattle.std.proofs.Math.Nat.{max-eq_left, max-eq_right}
use Rattle.std.proofs.lemmas.Bool.{cases_lt, cases_eq, cases_Bool, or_cases, or_right, eqb-true, eq-eqb, false≢true}
use Rattle.std.proofs.lemmas.Nat.{shr-shr, shr_le}
use Rattle.std.proofs.lemmas.Nat.Bits.{bit_at_or, bit_at-lt, bit_at-zero, bit_at_above, bit_at-trailing_zeros}
use Rattle.std.proofs.lemmas.List.{take_more, get_or_default, get_or-take, length-take-le}
use Rattle.std.proofs.lemmas.List.Elements.{All-push, recursion_from_All}
use Rattle.txn_types.specs.declared.txn.Kind.{Kind}
use Rattle.txn_types.specs.declared.txn.Kind.TheVariants.{Full}
use Rattle.txn_types.specs.declared.txn.Txn.{Txn}
use Rattle.oxii_defs.specs.State.{contains}
use Rattle.oxii_defs.specs.Dependency.{meets, depends, preds_from}
use Rattle.txn_core.specs.Touching.{IsMarked, Grows, Unites, IsEntered, AreEntered, AreNamed}
use Rattle.txn_core.proofs.GraphLemmas.{preds_until}

-- BITS

pub bit_or_left : (a c b : ℕ) → bit_at a b ≡ 1 → bit_at (bit_or a c) b ≡ 1
bit_or_left a c b set = bit_at_or a c b ∙ (max-eq_left (omega (arith, set, bit_at-lt c b)) ∙ set)

pub bit_or_right : (a c b : ℕ) → bit_at c b ≡ 1 → bit_at (bit_or a c) b ≡ 1
bit_or_right a c b set = bit_at_or a c b ∙ (max-eq_right (omega (arith, set, bit_at-lt a b)) ∙ set)

bit_shifted : (word k b : ℕ) → k ≤ b → bit_at word b ≡ bit_at (word / 2 ^ k) (b - k)
bit_shifted word k b le =
    let e : k + (b - k) ≡ b = omega arith in
    ap (λ j. word / 2 ^ j % 2) (sym e) ∙ ap (λ n. n % 2) (sym (shr-shr word k (b - k)))

-- no bit is left from k on
pub none_left : (word k : ℕ) → word / 2 ^ k ≡ 0 → (b : ℕ) → k ≤ b → bit_at word b ≡ 0
none_left word k e b le = bit_shifted word k b le ∙ ap (λ n. bit_at n (b - k)) e ∙ bit_at-zero (b - k)

-- the first bit from k on that is set
pub first_within : (word k : ℕ) → word < 2 ^ 64 → 0 < word / 2 ^ k → k + trailing_zeros w64 (word / 2 ^ k) ≤ 64
first_within word k fits some = here (cases_lt 64 (k + trailing_zeros w64 (word / 2 ^ k)))
  where
    here : (64 < k + trailing_zeros w64 (word / 2 ^ k)) ⊎ (k + trailing_zeros w64 (word / 2 ^ k) ≤ 64) → k + trailing_zeros w64 (word / 2 ^ k) ≤ 64
    here (inr le) = le
    here (inl over) =
        let z = trailing_zeros w64 (word / 2 ^ k) in
        let below : word / 2 ^ k < 2 ^ 64 = omega (arith, shr_le word k, fits) in
        let set : bit_at (word / 2 ^ k) z ≡ 1 = (bit_at-trailing_zeros w64 (word / 2 ^ k) some below).1 in
        let back : k + z - k ≡ z = omega arith in
        let same : bit_at word (k + z) ≡ bit_at (word / 2 ^ k) z = bit_shifted word k (k + z) (omega arith) ∙ ap (bit_at (word / 2 ^ k)) back in
        let unset : bit_at word (k + z) ≡ 0 = bit_at_above word 64 (k + z) fits (omega (arith, over)) in
        absurd (omega (arith, set, same, unset))

pub none_before : (word k : ℕ) → word < 2 ^ 64 → 0 < word / 2 ^ k → (b : ℕ) → k ≤ b → b < k + trailing_zeros w64 (word / 2 ^ k) → bit_at word b ≡ 0
none_before word k fits some b le lt =
    bit_shifted word k b le ∙ (bit_at-trailing_zeros w64 (word / 2 ^ k) some (omega (arith, shr_le word k, fits))).2 (b - k) (omega (arith, le, lt))

-- MARKS

pub marked_still : (old new : List ℕ) (p : ℕ) (records : List ℕ) → Grows old new → All (IsMarked old p) records → All (IsMarked new p) records
marked_still old new p records grows all = λ k d lt. grows (get_or records k d % 256 * 4 + p / 64) (p % 64) (all k d lt)

pub marked_more : (old new : List ℕ) (p : ℕ) (records : List ℕ) (i d : ℕ) → i < length records → Grows old new → IsMarked new p (get_or records i d)
    → All (IsMarked old p) (take i records) → All (IsMarked new p) (take (i + 1) records)
marked_more old new p records i d lt grows here all =
    subst (All (IsMarked new p)) (sym (take_more records i d lt))
    (All-push (IsMarked new p) (take i records) (get_or records i d) (marked_still old new p (take i records) grows all) here)

abbrev HasWord : List ℕ → ℕ → ℕ → ℕ → Type 0
HasWord words word all r = (b : ℕ) → bit_at (get_or words (r % 256 * 4 + word) 0) b ≡ 1 → bit_at all b ≡ 1

pub unites_more : (words records : List ℕ) (word all one i d : ℕ) → i < length records → one ≡ get_or words (get_or records i d % 256 * 4 + word) 0
    → Unites words (take i records) word all → Unites words (take (i + 1) records) word (bit_or all one)
unites_more words records word all one i d lt is so_far =
    let Has : ℕ → Type 0 = HasWord words word (bit_or all one) in
    subst (All Has) (sym (take_more records i d lt))
    (All-push Has (take i records) (get_or records i d)
    (λ k e l b set. bit_or_left all one b (so_far k e l b set))
    (λ b set. bit_or_right all one b (ap (λ n. bit_at n b) is ∙ set)))

-- WHAT DEPENDS IS MARKED

at_contained : (P : ℕ → Type 0) (xs : List ℕ) (r : ℕ) → AllByRecursion P xs → contains xs r ≡ true → P r
at_contained P [] r all c = absurd (false≢true c)
at_contained P (x ∷ xs) r all c = elim (or_cases _ _ c) [
  | inl same ↦ subst P (sym (eqb-true r x same)) all.0
  | inr later ↦ at_contained P xs r all.1 later
]

or_left : (a b : Bool) → a ≡ true → (a || b) ≡ true
or_left a b e = ap (λ x. x || b) e

-- a record in common
shared : (xs ys : List ℕ) → meets xs ys ≡ true → (r : ℕ) × (contains xs r ≡ true) × (contains ys r ≡ true)
shared [] ys m = absurd (false≢true m)
shared (x ∷ xs) ys m = elim (or_cases _ _ m) [
  | inl here ↦ (x, or_left _ _ (eq-eqb x x refl), here)
  | inr later ↦ let s = shared xs ys later in (s.0, or_right _ _ s.1, s.2)
]

pub united : (words xs ys : List ℕ) (p word all : ℕ) → p / 64 ≡ word → All (IsMarked words p) xs → Unites words ys word all → meets xs ys ≡ true → bit_at all (p % 64) ≡ 1
united words xs ys p word all at marked unites m =
    let s = shared xs ys m in
    let set = at_contained (IsMarked words p) xs s.0 (recursion_from_All (IsMarked words p) xs marked) s.1 in
    at_contained (HasWord words word all) ys s.0 (recursion_from_All (HasWord words word all) ys unites) s.2 (p % 64)
    (ap (λ w. bit_at (get_or words (s.0 % 256 * 4 + w) 0) (p % 64)) (sym at) ∙ set)

pub full_marked : (readers writers : List ℕ) (p word a b c : ℕ) (earlier later : Txn) → p / 64 ≡ word → IsEntered readers writers p earlier
    → Unites readers later.writes word a → Unites writers later.reads word b → Unites writers later.writes word c
    → depends Full earlier later ≡ true → bit_at (bit_or (bit_or a b) c) (p % 64) ≡ 1
full_marked readers writers p word a b c earlier later at entered ua ub uc depend = elim (or_cases _ _ depend) [
  | inl one ↦ bit_or_left (bit_or a b) c (p % 64) (elim (or_cases _ _ one) [
    | inl rw_pair ↦ bit_or_left a b (p % 64) (united readers earlier.reads later.writes p word a at entered.reads ua rw_pair)
    | inr wr_pair ↦ bit_or_right a b (p % 64) (united writers earlier.writes later.reads p word b at entered.writes ub wr_pair)
  ])
  | inr ww_pair ↦ bit_or_right (bit_or a b) c (p % 64) (united writers earlier.writes later.writes p word c at entered.writes uc ww_pair)
]

-- one transaction more is entered
pub entered_more : (readers writers new_readers new_writers : List ℕ) (count : ℕ) (txns : List Txn) (d : Txn) → count < length txns
    → Grows readers new_readers → Grows writers new_writers → IsEntered new_readers new_writers count (get_or txns count d)
    → AreEntered readers writers count txns → AreEntered new_readers new_writers (count + 1) txns
entered_more readers writers new_readers new_writers count txns d within grows_r grows_w here all = record {
  at = λ p e lt. elim (cases_eq p count) [
    | inl same ↦
        let Is : Txn → Type 0 = IsEntered new_readers new_writers p in
        subst Is (ap (λ i. get_or txns i d) (sym same) ∙ get_or_default txns p d e (omega (arith, same, within)))
        (subst (λ i. IsEntered new_readers new_writers i (get_or txns count d)) (sym same) here)
    | inr other ↦
        let before = all.at p e (omega (arith, lt, other)) in
        record {
          reads = marked_still readers new_readers p (get_or txns p e).reads grows_r before.reads;
          writes = marked_still writers new_writers p (get_or txns p e).writes grows_w before.writes;
        }
  ];
}

pub named_before : (readers writers : List ℕ) (count : ℕ) (txns : List Txn) (kind : Kind) (later : Txn) (words : List ℕ) → count ≤ length txns → length txns ≤ 256
    → AreEntered readers writers count txns
    → ((p : ℕ) (earlier : Txn) → p < 256 → IsEntered readers writers p earlier → depends kind earlier later ≡ true → bit_at (get_or words (p / 64) 0) (p % 64) ≡ 1)
    → AreNamed kind later (take count txns) words
named_before readers writers count txns kind later words le few all named = record {
  at = λ p d lt depend.
      let within : p < count = omega (arith, lt, length-take-le count txns le) in
      named p (get_or (take count txns) p d) (omega (arith, within))
      (let Is : Txn → Type 0 = IsEntered readers writers p in subst Is (sym (get_or-take count txns p d within)) (all.at p d within)) depend;
}

-- one of four words
pub at_word : (P : ℕ → Type 0) (a b c d q : ℕ) → q < 4 → (q ≡ 0 → P a) → (q ≡ 1 → P b) → (q ≡ 2 → P c) → (q ≡ 3 → P d) → P (get_or (a ∷ b ∷ c ∷ d ∷ []) q 0)
at_word P a b c d zero lt pa pb pc pd = pa refl
at_word P a b c d (suc zero) lt pa pb pc pd = pb refl
at_word P a b c d (suc (suc zero)) lt pa pb pc pd = pc refl
at_word P a b c d (suc (suc (suc zero))) lt pa pb pc pd = pd refl
at_word P a b c d (suc (suc (suc (suc q)))) lt pa pb pc pd = absurd (omega arith)

-- where an earlier one is not marked, the later one does not depend on it
not_named : (kind : Kind) (later : Txn) (earlier : List Txn) (words : List ℕ) (p : ℕ) → AreNamed kind later earlier words → p < length earlier
    → bit_at (get_or words (p / 64) 0) (p % 64) ≡ 0 → depends kind (get_or earlier p later) later ≡ false
not_named kind later earlier words p named lt unset = elim (cases_Bool (depends kind (get_or earlier p later) later)) [
  | inl does ↦ absurd (omega (arith, named.at p later lt does, unset))
  | inr not ↦ not
]

-- the positions that are passed are no predecessors
pub preds_passed : (kind : Kind) (later : Txn) (earlier : List Txn) (words : List ℕ) (i j : ℕ) → AreNamed kind later earlier words → i ≤ j
    → ((p : ℕ) → i ≤ p → p < j → bit_at (get_or words (p / 64) 0) (p % 64) ≡ 0)
    → preds_from kind later i (drop i earlier) ≡ preds_from kind later j (drop j earlier)
preds_passed kind later earlier words i j named le passed =
    preds_until kind later earlier i j le (λ p from lt within. not_named kind later earlier words p named within (passed p from lt))
