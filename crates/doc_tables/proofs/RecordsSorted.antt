-- Names in byte order, and where a new one goes.
use Rattle.std.proofs.Common.{◌≡◌, ℕ, zero, suc, ◌≤◌, Bool, true, false, cond, List, [], ◌∷◌, length, get_or, Option, Some, None, Contains, refl, sym, ap, subst, ◌∙◌, arith}
use Rattle.std.specs.Prelude.{nat_lt}
use Rattle.std.specs.Str.{bytes_eq}
use Rattle.std.specs.List.{All, insert, position_or_len, zip}
use Rattle.std.specs.Ordering.{is_eq, is_lt}
use Rattle.std.specs.declared.cmp.Ordering.{Ordering}
use Rattle.std.specs.declared.cmp.Ordering.TheVariants.{Less, Equal, Greater}
use Rattle.std.proofs.lemmas.Cmp.{nat_list_cmp_total}
use Rattle.std.proofs.lemmas.Map.Text.{is_eq-slice_cmp}
use Rattle.std.proofs.lemmas.Slice.Eq.{bytes_eq-Decides}
use Rattle.std.proofs.lemmas.Bool.Decides.{nat_tests}
use Rattle.std.proofs.lemmas.List.Sums.{position_or_len_is, fails_before_first}
use Rattle.std.proofs.lemmas.List.Elements.{All-nil, All-cons, All-head, All-contains, All-weaker, Contains-get_or}
use Rattle.oxii_defs.specs.NameLists.{AllDiffer, AreInOrder}
use Rattle.doc_forms.specs.Sorted.{order, gap_of}
use Rattle.doc_forms.specs.Tables.{place_of}
use Rattle.doc_tables.proofs.RecordsKept.{all_inserted}
use Rattle.doc_forms.proofs.SortedOnce.{SortedBy, IsAsymmetric, first_there, later_there}

-- ---- the order of names

abbrev pub lower : List ℕ → List ℕ → Type 0
lower a b = order a b ≡ Less

lower_through : (a b c : List ℕ) → lower a b → lower b c → lower a c
lower_through a b c h k = rw (nat_list_cmp_total.trans a b c h k) refl

pub one_way : IsAsymmetric lower
one_way a b h = λ back. absurd (differ (sym back ∙ nat_list_cmp_total.antisymm b a ∙ rw h refl))
  where
    differ : Less ≡ Greater → ⊥
    differ e = absurd cc

pub sorted_in_order : (names : List (List ℕ)) → SortedBy lower names → AreInOrder names
sorted_in_order [] h = tt
sorted_in_order (x ∷ []) h = tt
sorted_in_order (x ∷ y ∷ rest) h = (All-head (lower x) y rest h.0, sorted_in_order (y ∷ rest) h.1)

pub in_order_sorted : (names : List (List ℕ)) → AreInOrder names → SortedBy lower names
in_order_sorted [] h = tt
in_order_sorted (x ∷ []) h = (All-nil _, tt)
in_order_sorted (x ∷ y ∷ rest) h =
    let others = in_order_sorted (y ∷ rest) h.1 in
    (All-cons (lower x) y rest h.0 (All-weaker (lower y) (lower x) (λ z above. lower_through x y z h.0 above) rest others.0), others)

sorted_differ : (names : List (List ℕ)) → SortedBy lower names → AllDiffer names
sorted_differ [] h = tt
sorted_differ (x ∷ rest) h = (λ found. let itself = All-contains (lower x) rest x h.0 found in one_way x x itself itself, sorted_differ rest h.1)

-- names in order differ
pub order_differs : (names : List (List ℕ)) → AreInOrder names → AllDiffer names
order_differs names h = sorted_differ names (in_order_sorted names h)

-- ---- a name that is not there

option_differs : {A : Type 0} (x : A) → ◌≡◌ {A = Option A} (Some x) None → ⊥
option_differs x e = absurd cc

none_before : (i n : ℕ) (t : Bool) → nat_lt i n ≡ t → ◌≡◌ {A = Option ℕ} (cond t (Some i) None) None → n ≤ i
none_before i n true is e = absurd (option_differs i e)
none_before i n false is e = grind (arith, nat_tests, is)

pub is_absent : (names : List (List ℕ)) (t : List ℕ) → place_of names t ≡ None → ¬ Contains names t
unfolding place_of
is_absent names t none = λ found. differ (sym ((bytes_eq-Decides t t).1 refl) ∙ All-contains (λ n. bytes_eq n t ≡ false) names t each_differs found)
  where
    test : List ℕ → Bool
    test n = bytes_eq n t

    all_before : length names ≤ position_or_len (λ n. bytes_eq n t) names
    all_before = none_before (position_or_len (λ n. bytes_eq n t) names) (length names) _ refl none

    each_differs : All (λ n. bytes_eq n t ≡ false) names
    each_differs = λ k d lt. fails_before_first (λ n. bytes_eq n t) names k d (omega (arith, lt, all_before))

    differ : true ≡ false → ⊥
    differ e = absurd cc

no_true : (b : Bool) → ¬ (b ≡ true) → b ≡ false
no_true true h = absurd (h refl)
no_true false h = refl

pub not_found : (names : List (List ℕ)) (t : List ℕ) → ¬ Contains names t → place_of names t ≡ None
unfolding place_of
not_found names t absent =
    let is = position_or_len_is (λ n. bytes_eq n t) names (length names) [] (omega arith) (λ k lt. no_true _ (λ e. absent (subst (λ n. Contains names n) ((bytes_eq-Decides (get_or names k []) t).0 e) (Contains-get_or names k [] lt)))) (λ lt. absurd (omega (arith, lt))) in
    rw is (grind (arith, nat_tests))

-- ---- where it goes

above : (a t : List ℕ) → order a t ≡ Greater → lower t a
above a t is = nat_list_cmp_total.antisymm t a ∙ rw is refl

equal_is : (a t : List ℕ) → order a t ≡ Equal → a ≡ t
equal_is a t is = (bytes_eq-Decides a t).0 (sym (is_eq-slice_cmp a t) ∙ ap is_eq is)

pub gap_sorted : (names : List (List ℕ)) (t : List ℕ) → SortedBy lower names → ¬ Contains names t → SortedBy lower (insert names (gap_of names t) t)
unfolding gap_of
gap_sorted [] t h absent = (All-nil _, tt)
gap_sorted (n ∷ names) t h absent = by_order (order n t) refl (gap_sorted names t h.1 (λ found. absent (later_there n names t found)))
  where
    by_order : (o : Ordering) → order n t ≡ o → SortedBy lower (insert names (gap_of names t) t) → SortedBy lower (insert (n ∷ names) (cond (is_lt o) (suc (gap_of names t)) 0) t)
    by_order Less is rest = (all_inserted (lower n) names (gap_of names t) t is h.0, rest)
    by_order Equal is rest = absurd (absent (subst (λ a. Contains (a ∷ names) t) (sym (equal_is n t is)) (first_there t names)))
    by_order Greater is rest = (All-cons (lower t) n names (above n t is) (All-weaker (lower n) (lower t) (λ z over. lower_through t n z (above n t is) over) names h.0), h)

pub gap_within : (names : List (List ℕ)) (t : List ℕ) → gap_of names t ≤ length names
unfolding gap_of
gap_within [] t = omega arith
gap_within (n ∷ names) t = by_test (is_lt (order n t)) (gap_within names t)
  where
    by_test : (b : Bool) → gap_of names t ≤ length names → cond b (suc (gap_of names t)) 0 ≤ suc (length names)
    by_test true h = omega (arith, h)
    by_test false h = omega arith

-- ---- names beside their values

pub zip_inserted : (names : List (List ℕ)) (values : List ℕ) (i : ℕ) (t : List ℕ) (n : ℕ) → length values ≡ length names → zip (insert names i t) (insert values i n) ≡ insert (zip names values) i (t, n)
zip_inserted names values zero t n is = refl
zip_inserted [] [] (suc i) t n is = refl
zip_inserted [] (v ∷ values) (suc i) t n is = absurd (omega (arith, is))
zip_inserted (x ∷ names) [] (suc i) t n is = absurd (omega (arith, is))
zip_inserted (x ∷ names) (v ∷ values) (suc i) t n is = ap (λ l. (x, v) ∷ l) (zip_inserted names values i t n (omega (arith, is)))
