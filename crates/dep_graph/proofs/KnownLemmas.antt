-- That all which a position depends on is known, told from its list of predecessors.
use Rattle.std.specs.Prelude.{ℕ, suc, ◌+◌, ◌<◌, ◌≤◌, ◌≡◌, Bool, true, false, not, ◌&&◌, ◌||◌, cond, List, [], ◌∷◌, length, take, get_or, Option, None, is_some, refl}
use Rattle.std.specs.List.{list_all, slice_index_or}
use Rattle.std.proofs.Common.{sym, ◌∙◌, ap, arith}
use Rattle.std.proofs.lemmas.List.{get_or-take, length-take-le}
use Rattle.txn_types.specs.declared.txn.Kind.{Kind}
use Rattle.txn_types.specs.declared.txn.Txn.{Txn}
use Rattle.txn_types.specs.declared.txn.Outcome.{Outcome}
use Rattle.oxii_defs.specs.Dependency.{depends, preds_from, graph_of}
use Rattle.known_defs.specs.Known.{knows_all, txn_at, no_txn}
use Rattle.txn_core.proofs.GraphLemmas.{list_at}

-- these positions are all known
abbrev are_known : List (Option Outcome) → List ℕ → Bool
are_known known positions = list_all (λ p. is_some (get_or known p None)) positions

-- where the known ones from place i on are `xs`, the test of pairs is that of the places
knows_by : (kind : Kind) (t : Txn) (i : ℕ) (earlier : List Txn) (xs known : List (Option Outcome)) →
    ((k : ℕ) → k < length xs → get_or known (i + k) None ≡ get_or xs k None) →
    knows_all kind t earlier xs ≡ are_known known (preds_from kind t i (take (length xs) earlier))
knows_by kind t i [] [] known at = refl
knows_by kind t i [] (x ∷ xs) known at = refl
knows_by kind t i (a ∷ earlier) [] known at = refl
knows_by kind t i (a ∷ earlier) (x ∷ xs) known at =
    let here : get_or known i None ≡ x = let e : i + 0 ≡ i = omega arith in ap (λ j. get_or known j None) (sym e) ∙ at 0 (omega arith) in
    let more = knows_by kind t (suc i) earlier xs known (λ k l. let e : suc i + k ≡ i + suc k = omega arith in ap (λ j. get_or known j None) e ∙ at (suc k) (omega arith)) in
    one (depends kind a t) (ap is_some here) more
  where
    rest : List ℕ
    rest = preds_from kind t (suc i) (take (length xs) earlier)

    one : (d : Bool) → is_some (get_or known i None) ≡ is_some x → knows_all kind t earlier xs ≡ are_known known rest →
        ((not d || is_some x) && knows_all kind t earlier xs) ≡ are_known known (cond d (i ∷ rest) rest)
    one false e more = more
    one true e more = ap (λ b. b && knows_all kind t earlier xs) (sym e) ∙ ap (λ r. is_some (get_or known i None) && r) more

pub known_preds : (kind : Kind) (txns : List Txn) (t : ℕ) (known : List (Option Outcome)) (preds : List ℕ) → t < length txns → t ≤ length known → preds ≡ slice_index_or (graph_of kind txns) t [] →
    are_known known preds ≡ knows_all kind (txn_at txns t) txns (take t known)
known_preds kind txns t known preds within long listed =
    let taken : length (take t known) ≡ t = length-take-le t known long in
    sym (knows_by kind (txn_at txns t) 0 txns (take t known) known (λ k h. let e : 0 + k ≡ k = omega arith in ap (λ j. get_or known j None) e ∙ sym (get_or-take t known k None (omega (arith, h, taken))))
    ∙ (ap (λ n. are_known known (preds_from kind (txn_at txns t) 0 (take n txns))) taken
    ∙ ap (are_known known) (sym (listed ∙ list_at kind txns t no_txn within))))
