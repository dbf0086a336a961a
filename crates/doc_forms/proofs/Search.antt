-- What a binary search finds among names in byte order.
use Rattle.std.proofs.Common.{◌≡◌, ℕ, zero, suc, ◌+◌, ◌-◌, ◌<◌, ◌≤◌, List, [], ◌∷◌, length, get_or, Some, None, Result, Ok, Err, IfOk, IfErr, false, refl, sym, ap, subst, ◌∙◌, arith, ◌⊎◌, inl, inr}
use Rattle.std.specs.Prelude.{OnOk, OnErr}
use Rattle.std.specs.Str.{bytes_eq}
use Rattle.std.specs.List.{insert}
use Rattle.std.specs.List.Sorted.{IsSearchInRange, IsBinarySearchResult, IsNonDecreasingBy}
use Rattle.std.specs.Ordering.{ordering_index, is_eq}
use Rattle.std.specs.declared.cmp.Ordering.{Ordering}
use Rattle.std.specs.declared.cmp.Ordering.TheVariants.{Less, Equal, Greater}
use Rattle.std.proofs.lemmas.Cmp.{nat_list_cmp_total, alike_right}
use Rattle.std.proofs.lemmas.List.Sorted.{IsNonDecreasingBy-from_default}
use Rattle.std.proofs.lemmas.List.Edits.{length-insert, get_or-insert_below, get_or-insert_at, get_or-insert_above}
use Rattle.std.proofs.lemmas.Map.Text.{is_eq-slice_cmp}
use Rattle.std.proofs.lemmas.List.Sums.{position_or_len_is}
use Rattle.std.proofs.lemmas.Bool.{cases_lt}
use Rattle.std.proofs.lemmas.Bool.Decides.{nat_tests}
use Rattle.doc_forms.specs.Sorted.{order, IsInOrder, IsGap, gap_of}
use Rattle.doc_forms.specs.Tables.{place_of}

abbrev name_at : List (List ℕ) → ℕ → List ℕ
name_at names i = get_or names i []

-- below a name that isn't above the text, a name is no further up
rises : (a b t : List ℕ) → order a b ≡ Less → ordering_index (order a t) ≤ ordering_index (order b t)
rises a b t below = by_last (order b t) refl
  where
    by_last : (o : Ordering) → order b t ≡ o → ordering_index (order a t) ≤ ordering_index o
    by_last Less is = rw (nat_list_cmp_total.trans a b t below is) (omega arith)
    by_last Equal is = rw (sym (alike_right nat_list_cmp_total b t a is) ∙ below) (omega arith)
    by_last Greater is = top (order a t)
      where
        top : (o : Ordering) → ordering_index o ≤ 2
        top Less = omega arith
        top Equal = omega arith
        top Greater = omega arith

comparisons_rise : (names : List (List ℕ)) (t : List ℕ) → IsInOrder names → IsNonDecreasingBy (λ n. ordering_index (order n t)) names
comparisons_rise names t sorted = IsNonDecreasingBy-from_default (λ n. ordering_index (order n t)) names [] (λ i j le in_range. by_place i j in_range (cases_lt i j) le)
  where
    by_place : (i j : ℕ) → j < length names → (i < j) ⊎ (j ≤ i) → i ≤ j → ordering_index (order (name_at names i) t) ≤ ordering_index (order (name_at names j) t)
    by_place i j in_range (inl lt) le = rises (name_at names i) (name_at names j) t (sorted i j lt in_range)
    by_place i j in_range (inr ge) le = let same : i ≡ j = omega arith in rw same (omega arith)

-- the text's place, or the gap for it
pub record IsAt (names : List (List ℕ)) (t : List ℕ) (i : ℕ) : Type 0 where
  pub in_range : i < length names
  pub same : order (name_at names i) t ≡ Equal

pub searched : (names : List (List ℕ)) (t : List ℕ) → IsInOrder names → (r : Result ℕ ℕ) → IsSearchInRange r (length names) → IsBinarySearchResult (λ n. order n t) names r
    → (IfOk r (IsAt names t)) × (IfErr r (IsGap names t))
searched names t sorted (Ok i) in_range equal = (record { in_range = in_range; same = equal [] }, tt)
searched names t sorted (Err i) in_range parted = (
  tt,
  record {
    in_range = in_range;
    smaller = λ j lt. (parted (comparisons_rise names t sorted)).0 j [] (omega arith) lt;
    greater = λ j le lt. (parted (comparisons_rise names t sorted)).1 j [] le lt;
  },
)

eq_of : (a t : List ℕ) (o : Ordering) → order a t ≡ o → bytes_eq a t ≡ is_eq o
eq_of a t o is = sym (is_eq-slice_cmp a t) ∙ ap is_eq is

pub found : (names : List (List ℕ)) (t : List ℕ) (i : ℕ) → IsInOrder names → IsAt names t i → place_of names t ≡ Some i
unfolding place_of
found names t i sorted at =
    let before : (k : ℕ) → k < i → bytes_eq (name_at names k) t ≡ false = λ k lt. eq_of (name_at names k) t Less (sym (alike_right nat_list_cmp_total (name_at names i) t (name_at names k) at.same) ∙ sorted k i lt at.in_range) in
    let here = eq_of (name_at names i) t Equal at.same in
    let is = position_or_len_is (λ other. bytes_eq other t) names i [] (omega (arith, at.in_range)) before (λ lt. here) in
    rw is (grind (arith, nat_tests, at.in_range))

pub absent : (names : List (List ℕ)) (t : List ℕ) (i : ℕ) → IsGap names t i → place_of names t ≡ None
unfolding place_of
absent names t i gap =
    let differs : (k : ℕ) → k < length names → bytes_eq (name_at names k) t ≡ false = λ k lt. by_side k lt (cases_lt k i) in
    let is = position_or_len_is (λ other. bytes_eq other t) names (length names) [] (omega arith) differs (λ lt. absurd (omega (arith, lt))) in
    rw is (grind (arith, nat_tests))
  where
    by_side : (k : ℕ) → k < length names → (k < i) ⊎ (i ≤ k) → bytes_eq (name_at names k) t ≡ false
    by_side k lt (inl below) = eq_of (name_at names k) t Less (gap.smaller k below)
    by_side k lt (inr above) = eq_of (name_at names k) t Greater (gap.greater k above lt)

pub gap_is : (names : List (List ℕ)) (t : List ℕ) (i : ℕ) → IsGap names t i → i ≡ gap_of names t
unfolding gap_of
gap_is [] t i gap = omega (arith, gap.in_range)
gap_is (n ∷ names) t zero gap = rw (gap.greater 0 (omega arith) (omega arith)) refl
gap_is (n ∷ names) t (suc i) gap =
    rw (gap.smaller 0 (omega arith)) (ap suc (gap_is names t i (record {
      in_range = omega (arith, gap.in_range);
      smaller = λ j lt. gap.smaller (suc j) (omega arith);
      greater = λ j le lt. gap.greater (suc j) (omega arith) (omega arith);
    })))

above : (a t : List ℕ) → order a t ≡ Greater → order t a ≡ Less
above a t is = nat_list_cmp_total.antisymm t a ∙ rw is refl

-- a name put into its gap keeps the order
pub sorted_insert : (names : List (List ℕ)) (t : List ℕ) (at : ℕ) → IsInOrder names → IsGap names t at → IsInOrder (insert names at t)
sorted_insert names t at sorted gap i j lt in_range =
    let length_new = length-insert names at t gap.in_range in
    by_places (cases_lt i at) (cases_lt j at) (cases_lt at i) (cases_lt at j) (let r : j < length names + 1 = rw length_new at in_range in omega (arith, r))
  where
    new : List (List ℕ)
    new = insert names at t

    below : (k : ℕ) → k < at → name_at new k ≡ name_at names k
    below k lt = get_or-insert_below names at t [] k lt gap.in_range

    here : (k : ℕ) → k ≡ at → name_at new k ≡ t
    here k is = rw is (get_or-insert_at names at t [] gap.in_range)

    further : (k : ℕ) → at < k → name_at new k ≡ name_at names (k - 1)
    further k lt = subst (λ q. name_at new q ≡ name_at names (k - 1)) {x = k - 1 + 1} (omega arith) (get_or-insert_above names at t [] (k - 1) (omega arith) gap.in_range)

    by_places : (i < at) ⊎ (at ≤ i) → (j < at) ⊎ (at ≤ j) → (at < i) ⊎ (i ≤ at) → (at < j) ⊎ (j ≤ at) → j < suc (length names) → order (name_at new i) (name_at new j) ≡ Less
    by_places (inl a) (inl b) c d r = rw (below i a, below j b) (sorted i j lt (omega (arith, gap.in_range)))
    by_places (inl a) (inr b) c (inl d) r = rw (below i a, further j d) (sorted i (j - 1) (omega arith) (omega arith))
    by_places (inl a) (inr b) c (inr d) r = rw (below i a, here j (omega arith)) (gap.smaller i a)
    by_places (inr a) (inl b) c d r = absurd (omega arith)
    by_places (inr a) (inr b) (inl c) (inl d) r = rw (further i c, further j d) (sorted (i - 1) (j - 1) (omega arith) (omega arith))
    by_places (inr a) (inr b) (inl c) (inr d) r = absurd (omega arith)
    by_places (inr a) (inr b) (inr c) (inl d) r = rw (here i (omega arith), further j d) (above (name_at names (j - 1)) t (gap.greater (j - 1) (omega arith) (omega arith)))
    by_places (inr a) (inr b) (inr c) (inr d) r = absurd (omega arith)

-- after an insert that may have wanted memory
pub sorted_after : {A E : Type 0} (r : Result A E) (before after : List (List ℕ)) (text : List ℕ) (i : ℕ) → IsInOrder before → IsGap before text i → OnOk r (after ≡ insert before i text) → OnErr r (after ≡ before) → IsInOrder after
sorted_after (Ok x) before after text i sorted gap ok err = subst (λ (names : List (List ℕ)). IsInOrder names) (sym ok) (sorted_insert before text i sorted gap)
sorted_after (Err e) before after text i sorted gap ok err = subst (λ (names : List (List ℕ)). IsInOrder names) (sym err) sorted

pub search_ends : (names : List (List ℕ)) (t : List ℕ) → IsInOrder names → (r : Result ℕ ℕ) → IsSearchInRange r (length names) → IsBinarySearchResult (λ n. order n t) names r
    → record { found : IfOk r (λ i. place_of names t ≡ Some i); absent : IfErr r (λ i. (place_of names t ≡ None) × (i ≡ gap_of names t) × IsGap names t i) }
search_ends names t sorted (Ok i) in_range is = record { found = found names t i sorted (searched names t sorted (Ok i) in_range is).0; absent = tt }
search_ends names t sorted (Err i) in_range is =
    let gap = (searched names t sorted (Err i) in_range is).1 in
    record { found = tt; absent = (absent names t i gap, gap_is names t i gap, gap) }
