-- A mark put at its place.
use Rattle.std.specs.Prelude.{ℕ, ◌+◌, ◌<◌, ◌≤◌, ◌≡◌, Bool, true, false, ◌||◌, List, [], ◌∷◌, length, slice_index_or, zero, suc, refl}
use Rattle.std.specs.declared.cmp.Ordering.{Ordering}
use Rattle.std.specs.declared.cmp.Ordering.TheVariants.{Less, Equal, Greater}
use Rattle.std.specs.Ordering.{eq_by_cmp, is_eq, is_lt, ordering_index, ordering_reverse}
use Rattle.std.specs.Cmp.{IsTotalOrder}
use Rattle.std.specs.List.{AllByRecursion, HoldsAt, insert, list_any}
use Rattle.std.specs.List.Sorted.{IsStrictlySortedBy, IsNonDecreasingBy, IsPartitionPoint}
use Rattle.std.proofs.Common.{sym, ◌∙◌, ap, subst, arith}
use Rattle.std.proofs.lemmas.Cmp.{alike_right}
use Rattle.std.proofs.lemmas.List.Sorted.{searchable_from_sorted}
use Rattle.std.proofs.lemmas.Map.Keys.{Less-from_sorted}
use Rattle.evidence_marks.specs.Marks.{IsMarkedWith}

pub none_rises : {K : Type 0} (c : K → K → Ordering) (xs : List K) → xs ≡ [] → IsStrictlySortedBy c xs
unfolding IsStrictlySortedBy
none_rises c xs e = subst (IsStrictlySortedBy c) (sym e) tt

or_true : (b : Bool) → (b || true) ≡ true
or_true true = refl
or_true false = refl

swap : (a b c : Bool) → (a || (b || c)) ≡ (b || (a || c))
swap true true c = refl
swap true false c = refl
swap false b c = refl

module _ {K : Type 0} (R : K → K → Ordering) (o : IsTotalOrder R) (x : K) where
  -- all of these are above x
  above : (xs : List K) → ((k : ℕ) (d : K) → k < length xs → R (slice_index_or xs k d) x ≡ Greater) → AllByRecursion (λ y. R x y ≡ Less) xs
  above [] h = tt
  above (y ∷ ys) h = (o.antisymm x y ∙ ap ordering_reverse (h 0 y (omega arith)), above ys (λ k d l. h (suc k) d (omega arith)))

  -- y is below x and below these
  below : (y : K) (i : ℕ) (ys : List K) → R y x ≡ Less → AllByRecursion (λ z. R y z ≡ Less) ys → AllByRecursion (λ z. R y z ≡ Less) (insert ys i x)
  below y zero ys h a = (h, a)
  below y (suc i) [] h a = (h, tt)
  below y (suc i) (z ∷ zs) h a = (a.0, below y i zs h a.1)

  put_rises : (i : ℕ) (xs : List K) → IsStrictlySortedBy R xs → ((k : ℕ) (d : K) → k < i → R (slice_index_or xs k d) x ≡ Less) → ((k : ℕ) (d : K) → i ≤ k → k < length xs → R (slice_index_or xs k d) x ≡ Greater) → i ≤ length xs → IsStrictlySortedBy R (insert xs i x)
  unfolding IsStrictlySortedBy
  put_rises zero xs s l g n = (above xs (λ k d m. g k d (omega arith) m), s)
  put_rises (suc i) [] s l g n = absurd (omega arith)
  put_rises (suc i) (y ∷ ys) s l g n = (below y i ys (l 0 y (omega arith)) s.0, put_rises i ys s.1 (λ k d m. l (suc k) d (omega arith)) (λ k d m h. g (suc k) d (omega arith) (omega arith)) (omega arith))

  put_member : (m : K) (i : ℕ) (xs : List K) → list_any (eq_by_cmp R m) (insert xs i x) ≡ (eq_by_cmp R m x || list_any (eq_by_cmp R m) xs)
  put_member m zero xs = refl
  put_member m (suc i) [] = refl
  put_member m (suc i) (y ∷ ys) = ap (λ b. eq_by_cmp R m y || b) (put_member m i ys) ∙ swap (eq_by_cmp R m y) (eq_by_cmp R m x) (list_any (eq_by_cmp R m) ys)

  -- the answer of a search in rising keys
  searched : (xs : List K) → IsStrictlySortedBy R xs → IsNonDecreasingBy (λ y. ordering_index (R y x)) xs
  searched xs s = searchable_from_sorted o (λ y. y) xs x (λ k d l n. ap is_lt (o.antisymm (slice_index_or xs (k + 1) d) (slice_index_or xs k d) ∙ ap ordering_reverse (Less-from_sorted R xs k (k + 1) d s (omega arith) n)))

  -- where x isn't there, and is put
  pub put_marks : (seen was new : List K) (i : ℕ) → seen ≡ was → IsStrictlySortedBy R was → i ≤ length seen → (IsNonDecreasingBy (λ y. ordering_index (R y x)) seen → IsPartitionPoint (λ y. R y x ≡ Less) (λ y. R y x ≡ Greater) seen i) → new ≡ insert was i x → IsMarkedWith R was x new
  put_marks seen was new i e s n part is =
      let split = subst (λ ys. IsPartitionPoint (λ y. R y x ≡ Less) (λ y. R y x ≡ Greater) ys i) e (part (subst (IsNonDecreasingBy (λ y. ordering_index (R y x))) (sym e) (searched was s))) in
      record {
        rising = subst (IsStrictlySortedBy R) (sym is) (put_rises i was s (λ k d l. split.0 k d (omega arith) l) (λ k d l m. split.1 k d l m) (omega (arith, n, ap length e)));
        are = λ m. ap (list_any (eq_by_cmp R m)) is ∙ put_member m i was;
      }

  member : (m : K) (xs : List K) (k : ℕ) (d : K) → k < length xs → eq_by_cmp R m (slice_index_or xs k d) ≡ true → list_any (eq_by_cmp R m) xs ≡ true
  member m [] k d l h = absurd (omega arith)
  member m (y ∷ ys) zero d l h = ap (λ b. b || list_any (eq_by_cmp R m) ys) h
  member m (y ∷ ys) (suc k) d l h = ap (λ b. eq_by_cmp R m y || b) (member m ys k d (omega arith) h) ∙ or_true (eq_by_cmp R m y)

  -- where it is there
  pub found_marks : (seen was : List K) (i : ℕ) → seen ≡ was → IsStrictlySortedBy R was → i < length seen → HoldsAt (λ y. R y x ≡ Equal) seen i → IsMarkedWith R was x was
  found_marks seen was i e s n at = record { rising = s; are = λ m. one m (eq_by_cmp R m x) refl }
    where
      there : R (slice_index_or was i x) x ≡ Equal
      there = subst (λ ys. R (slice_index_or ys i x) x ≡ Equal) e (at x)

      one : (m : K) (b : Bool) → eq_by_cmp R m x ≡ b → list_any (eq_by_cmp R m) was ≡ (b || list_any (eq_by_cmp R m) was)
      one m false q = refl
      one m true q = member m was i x (omega (arith, n, ap length e)) (ap is_eq (alike_right o (slice_index_or was i x) x m there) ∙ q)
