-- A block has few dependent pairs.
use Rattle.std.proofs.Common.{◌≤◌, ℕ, suc, ◌+◌, ◌*◌, Bool, true, false, cond, List, [], ◌∷◌, ◌++◌, length, arith, length-append}
use Rattle.std.specs.List.{sum_by}
use Rattle.std.proofs.lemmas.List.Sums.{sum_by-cons}
use Rattle.txn_types.specs.declared.txn.Kind.{Kind}
use Rattle.txn_types.specs.declared.txn.Txn.{Txn}
use Rattle.oxii_defs.specs.Dependency.{depends, graph_after, graph_of, preds_from}

preds_few : (kind : Kind) (t : Txn) (i : ℕ) (xs : List Txn) → length (preds_from kind t i xs) ≤ length xs
preds_few kind t i [] = omega arith
preds_few kind t i (x ∷ xs) = by (depends kind x t) (preds_few kind t (suc i) xs)
  where
    by : (b : Bool) → length (preds_from kind t (suc i) xs) ≤ length xs → length (cond b (i ∷ preds_from kind t (suc i) xs) (preds_from kind t (suc i) xs)) ≤ suc (length xs)
    by true h = omega arith
    by false h = omega arith

graph_few : (kind : Kind) (before xs : List Txn) → length before + length xs ≤ 256 → sum_by length (graph_after kind before xs) ≤ length xs * 256
graph_few kind before [] few = omega arith
graph_few kind before (x ∷ xs) few =
    let here = preds_few kind x 0 before in
    let more = graph_few kind (before ++ x ∷ []) xs (omega (arith, length-append before (x ∷ []))) in
    omega (arith, here, more, sum_by-cons length (preds_from kind x 0 before) (graph_after kind (before ++ x ∷ []) xs))

pub pairs_few : (kind : Kind) (txns : List Txn) → length txns ≤ 256 → sum_by length (graph_of kind txns) ≤ 65536
pairs_few kind txns few = let h = graph_few kind [] txns (omega arith) in omega (arith, h)
