-- The graph of a block has exactly the dependent pairs.
use Rattle.std.proofs.Common.{◌≡◌, ℕ, zero, suc, ◌+◌, ◌<◌, Bool, cond, List, [], ◌∷◌, ◌++◌, length, get_or, take, filter, Some, slice_get, refl, sym, ap, ◌∙◌, arith, append_assoc, append-nil}
use Rattle.std.specs.List.{range_with_len}
use Rattle.std.proofs.lemmas.List.{get_or-take, length-take-le}
use Rattle.std.proofs.lemmas.Option.{none-some, same_Some, slice_get_within}
use Rattle.txn_types.specs.declared.txn.Kind.{Kind}
use Rattle.txn_types.specs.declared.txn.Txn.{Txn}
use Rattle.oxii_defs.specs.Dependency.{depends, graph_after, preds_from}
use Rattle.oxii_defs.specs.Laws.{GraphsAreMeant}

kept_same : (b c : Bool) (i : ℕ) (xs ys : List ℕ) → b ≡ c → xs ≡ ys → cond b (i ∷ xs) xs ≡ cond c (i ∷ ys) ys
kept_same b c i xs ys p q = cc

-- the places from i on at which `all` has these transactions, of which t depends
preds_are : (kind : Kind) (t : Txn) (all : List Txn) (i : ℕ) (xs : List Txn) → ((k : ℕ) → k < length xs → get_or all (i + k) t ≡ get_or xs k t) →
    preds_from kind t i xs ≡ filter (λ k. depends kind (get_or all k t) t) (range_with_len i (length xs))
preds_are kind t all i [] same = refl
preds_are kind t all i (x ∷ rest) same =
    let z : i + 0 ≡ i = omega arith in
    let n : suc i ≡ i + 1 = omega arith in
    let here : get_or all i t ≡ x = ap (λ k. get_or all k t) (sym z) ∙ same 0 (omega arith) in
    let later = preds_are kind t all (suc i) rest (λ k l. let e : suc i + k ≡ i + suc k = omega arith in ap (λ m. get_or all m t) e ∙ same (suc k) (omega arith)) in
    kept_same (depends kind x t) (depends kind (get_or all i t) t) i (preds_from kind t (suc i) rest) (filter (λ k. depends kind (get_or all k t) t) (range_with_len (i + 1) (length rest)))
    (ap (λ y. depends kind y t) (sym here)) (later ∙ ap (λ m. filter (λ k. depends kind (get_or all k t) t) (range_with_len m (length rest))) n)

lists_after : (kind : Kind) (before txns : List Txn) → length (graph_after kind before txns) ≡ length txns
lists_after kind before [] = refl
lists_after kind before (t ∷ rest) = ap (λ n. suc n) (lists_after kind (before ++ t ∷ []) rest)

list_at : (kind : Kind) (before txns : List Txn) (j : ℕ) (t : Txn) → slice_get txns j ≡ Some t → get_or (graph_after kind before txns) j [] ≡ preds_from kind t 0 (before ++ take j txns)
list_at kind before [] j t e = absurd (none-some t e)
list_at kind before (x ∷ rest) zero t e = ap (λ y. preds_from kind y 0 before) (same_Some x t e) ∙ ap (preds_from kind t 0) (sym (append-nil before))
list_at kind before (x ∷ rest) (suc j) t e = list_at kind (before ++ x ∷ []) rest j t e ∙ ap (preds_from kind t 0) (append_assoc before (x ∷ []) (take j rest))

pub graphs_meant : GraphsAreMeant
graphs_meant kind txns = record {
  one_each = lists_after kind [] txns;
  pairs = λ j later e.
      let l = slice_get_within txns j later e in
      let n : length (take j txns) ≡ j = length-take-le j txns (omega arith) in
      list_at kind [] txns j later e
      ∙ (preds_are kind later txns 0 (take j txns) (λ k m. let z : 0 + k ≡ k = omega arith in ap (λ i. get_or txns i later) z ∙ sym (get_or-take j txns k later (omega arith)))
      ∙ ap (λ m. filter (λ k. depends kind (get_or txns k later) later) (range_with_len 0 m)) n);
}
