-- Dependency and the graph, step by step.
use Rattle.std.proofs.Common.{◌≡◌, ◌<◌, ◌≤◌, ◌+◌, ◌-◌, ◌++◌, ◌↔◌, inl, inr, sym, ◌∙◌, append_assoc, ℕ, zero, suc, Bool, true, false, cond, List, [], ◌∷◌, length, take, drop, get_or, refl, ap, subst, add-one, arith, length-append}
use Rattle.std.specs.List.{list_any, AllByRecursion, slice_index_or}
use Rattle.std.proofs.lemmas.List.Elements.{All-from_recursion}
use Rattle.txn_types.specs.Rising.{IsRising}
use Rattle.txn_core.specs.Graphs.{ArePreds}
use Rattle.std.proofs.lemmas.List.{drop_more, drop_all, take_more, append-nil, get_or_default}
use Rattle.std.proofs.lemmas.Bool.{cases_lt}
use Rattle.txn_types.specs.declared.txn.Kind.{Kind}
use Rattle.txn_types.specs.declared.txn.Txn.{Txn}
use Rattle.oxii_defs.specs.State.{contains}
use Rattle.oxii_defs.specs.Dependency.{meets, depends, preds_from, graph_after, graph_of}

pub meets_any : (xs ys : List ℕ) → meets xs ys ≡ list_any (λ x. contains ys x) xs
meets_any [] ys = refl
meets_any (x ∷ xs) ys = rw (meets_any xs ys)

-- the place i is named, or not
pub preds_more : (kind : Kind) (t : Txn) (xs : List Txn) (i : ℕ) (d : Txn) → i < length xs →
    preds_from kind t i (drop i xs)
    ≡ cond (depends kind (get_or xs i d) t) (i ∷ preds_from kind t (i + 1) (drop (i + 1) xs)) (preds_from kind t (i + 1) (drop (i + 1) xs))
preds_more kind t xs i d below = rw (drop_more xs i d below, add-one i)

-- no predecessor at a place, or past the end
pub preds_past : (kind : Kind) (t : Txn) (xs : List Txn) (i : ℕ) → (i < length xs → depends kind (get_or xs i t) t ≡ false) →
    preds_from kind t i (drop i xs) ≡ preds_from kind t (i + 1) (drop (i + 1) xs)
preds_past kind t xs i none = elim (cases_lt i (length xs)) [
  | inl lt ↦ preds_more kind t xs i t lt ∙ ap (λ b. cond b (i ∷ preds_from kind t (i + 1) (drop (i + 1) xs)) (preds_from kind t (i + 1) (drop (i + 1) xs))) (none lt)
  | inr past ↦ ap (preds_from kind t i) (drop_all i xs past) ∙ sym (ap (preds_from kind t (i + 1)) (drop_all (i + 1) xs (omega arith)))
]

preds_skip : (kind : Kind) (t : Txn) (xs : List Txn) (i n : ℕ) → ((p : ℕ) → i ≤ p → p < i + n → p < length xs → depends kind (get_or xs p t) t ≡ false) →
    preds_from kind t i (drop i xs) ≡ preds_from kind t (i + n) (drop (i + n) xs)
preds_skip kind t xs i zero none = let e : i + 0 ≡ i = omega arith in ap (λ j. preds_from kind t j (drop j xs)) (sym e)
preds_skip kind t xs i (suc n) none =
    let e : i + 1 + n ≡ i + suc n = omega arith in
    preds_past kind t xs i (none i (omega arith) (omega arith))
    ∙ preds_skip kind t xs (i + 1) n (λ p from lt. none p (omega (arith, from)) (omega (arith, lt)))
    ∙ ap (λ j. preds_from kind t j (drop j xs)) e

-- no predecessor from one place up to another
pub preds_until : (kind : Kind) (t : Txn) (xs : List Txn) (i j : ℕ) → i ≤ j → ((p : ℕ) → i ≤ p → p < j → p < length xs → depends kind (get_or xs p t) t ≡ false) →
    preds_from kind t i (drop i xs) ≡ preds_from kind t j (drop j xs)
preds_until kind t xs i j le none =
    let e : i + (j - i) ≡ j = omega arith in
    preds_skip kind t xs i (j - i) (λ p from lt. none p from (omega (arith, lt))) ∙ ap (λ k. preds_from kind t k (drop k xs)) e

-- the list of a position is that of the places before it
list_after : (kind : Kind) (before txns : List Txn) (t : ℕ) (d : Txn) → t < length txns → slice_index_or (graph_after kind before txns) t [] ≡ preds_from kind (get_or txns t d) 0 (before ++ take t txns)
list_after kind before [] t d l = absurd (omega arith)
list_after kind before (x ∷ xs) zero d l = ap (preds_from kind x 0) (sym (append-nil before))
list_after kind before (x ∷ xs) (suc t) d l = list_after kind (before ++ x ∷ []) xs t d (omega arith) ∙ ap (preds_from kind (get_or xs t d) 0) (append_assoc before (x ∷ []) (take t xs))

pub list_at : (kind : Kind) (txns : List Txn) (t : ℕ) (d : Txn) → t < length txns → slice_index_or (graph_of kind txns) t [] ≡ preds_from kind (get_or txns t d) 0 (take t txns)
list_at kind txns t d = list_after kind [] txns t d

-- one list more
pub graph_more : (kind : Kind) (xs : List Txn) (j : ℕ) (d : Txn) → j < length xs →
    graph_after kind (take j xs) (drop j xs)
    ≡ preds_from kind (get_or xs j d) 0 (take j xs) ∷ graph_after kind (take (j + 1) xs) (drop (j + 1) xs)
graph_more kind xs j d below = rw (drop_more xs j d below, take_more xs j d below)

pub length-graph_after : (kind : Kind) (before xs : List Txn) → length (graph_after kind before xs) ≡ length xs
length-graph_after kind before [] = refl
length-graph_after kind before (x ∷ xs) = ap suc (length-graph_after kind (before ++ x ∷ []) xs)

-- a list per position
pub length-graph_of : (kind : Kind) (txns : List Txn) → length (graph_of kind txns) ≡ length txns
length-graph_of kind txns = length-graph_after kind [] txns

-- THE LISTS RISE, AND NAME EARLIER PLACES

abbrev IsWithin : ℕ → ℕ → ℕ → Type 0
IsWithin low high p = (low ≤ p) × (p < high)

wider : (low high low2 high2 : ℕ) (ps : List ℕ) → low2 ≤ low → high ≤ high2 → AllByRecursion (IsWithin low high) ps → AllByRecursion (IsWithin low2 high2) ps
wider low high low2 high2 [] l h all = tt
wider low high low2 high2 (p ∷ ps) l h all = ((omega (arith, all.0.0), omega (arith, all.0.1)), wider low high low2 high2 ps l h all.1)

rising_after : (i high : ℕ) (ps : List ℕ) → AllByRecursion (IsWithin (suc i) high) ps → IsRising ps → IsRising (i ∷ ps)
rising_after i high [] all rising = tt
rising_after i high (p ∷ ps) all rising = (omega (arith, all.0.0), rising)

preds_within : (kind : Kind) (t : Txn) (i : ℕ) (xs : List Txn) → IsRising (preds_from kind t i xs) × AllByRecursion (IsWithin i (i + length xs)) (preds_from kind t i xs)
preds_within kind t i [] = (tt, tt)
preds_within kind t i (x ∷ xs) = here (depends kind x t) (preds_within kind t (suc i) xs)
  where
    here : (b : Bool) → IsRising (preds_from kind t (suc i) xs) × AllByRecursion (IsWithin (suc i) (suc i + length xs)) (preds_from kind t (suc i) xs)
        → IsRising (cond b (i ∷ preds_from kind t (suc i) xs) (preds_from kind t (suc i) xs))
        × AllByRecursion (IsWithin i (i + suc (length xs))) (cond b (i ∷ preds_from kind t (suc i) xs) (preds_from kind t (suc i) xs))
    here true h = (
      rising_after i (suc i + length xs) (preds_from kind t (suc i) xs) h.1 h.0,
      ((omega arith, omega arith), wider (suc i) (suc i + length xs) i (i + suc (length xs)) (preds_from kind t (suc i) xs) (omega arith) (omega arith) h.1),
    )
    here false h = (h.0, wider (suc i) (suc i + length xs) i (i + suc (length xs)) (preds_from kind t (suc i) xs) (omega arith) (omega arith) h.1)

below : (high : ℕ) (ps : List ℕ) → AllByRecursion (IsWithin 0 high) ps → AllByRecursion (λ p. p < high) ps
below high [] all = tt
below high (p ∷ ps) all = (all.0.1, below high ps all.1)

earlier_after : (kind : Kind) (before xs : List Txn) (t : ℕ) → t < length (graph_after kind before xs)
    → IsRising (slice_index_or (graph_after kind before xs) t [])
    × AllByRecursion (IsWithin 0 (length before + t)) (slice_index_or (graph_after kind before xs) t [])
earlier_after kind before [] t lt = absurd (omega arith)
earlier_after kind before (x ∷ xs) zero lt =
    let h = preds_within kind x 0 before in
    (h.0, wider 0 (0 + length before) 0 (length before + 0) (preds_from kind x 0 before) (omega arith) (omega arith) h.1)
earlier_after kind before (x ∷ xs) (suc t) lt =
    let more = before ++ x ∷ [] in
    let h = earlier_after kind more xs t (omega arith) in
    (h.0, wider 0 (length more + t) 0 (length before + suc t) (slice_index_or (graph_after kind more xs) t []) (omega arith) (omega (arith, length-append before (x ∷ []))) h.1)

-- the graph of a block is one that a `Graph` can hold
pub graph_preds : (kind : Kind) (txns : List Txn) → length txns ≤ 256 → ArePreds (graph_of kind txns)
graph_preds kind txns few = record {
  count = omega (arith, length-graph_of kind txns);
  rising = λ t d lt. subst IsRising (get_or_default (graph_of kind txns) t [] d lt) (earlier_after kind [] txns t lt).0;
  earlier = λ t lt. All-from_recursion (λ p. p < t) (slice_index_or (graph_of kind txns) t [])
      (below t (slice_index_or (graph_of kind txns) t []) (wider 0 (0 + t) 0 t (slice_index_or (graph_of kind txns) t []) (omega arith) (omega arith) (earlier_after kind [] txns t lt).1));
}

-- two lists are the same from a place on where they are from the next one
pub lists_more : (xs ys : List (List ℕ)) (i : ℕ) → i < length xs → i < length ys → get_or xs i [] ≡ get_or ys i [] →
    (drop i xs ≡ drop i ys) ↔ (drop (i + 1) xs ≡ drop (i + 1) ys)
lists_more xs ys i lx ly same =
    let ex = drop_more xs i [] lx in
    let ey = drop_more ys i [] ly in
    (λ e. cc (e, ex, ey), λ e. cc (e, ex, ey, same))
