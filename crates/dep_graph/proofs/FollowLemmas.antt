-- Whether another application follows, position by position.
use Rattle.std.proofs.Common.{◌≡◌, ◌<◌, ◌≤◌, ◌+◌, ℕ, zero, suc, [], ◌∷◌, arith, not, ◌&&◌, ◌||◌, ◌==◌, List, length, drop, get_or, Bool, true, false, refl, eq-eqb, sym, ap, ◌∙◌}
use Rattle.std.proofs.lemmas.List.{drop_more}
use Rattle.txn_types.specs.declared.txn.Txn.{Txn}
use Rattle.oxii_defs.specs.State.{contains}
use Rattle.node_defs.specs.Sent.{other_app_follows}
use Rattle.std.specs.List.{AllByRecursion}
use Rattle.std.proofs.lemmas.Bool.{ne_eqb}
use Rattle.std.proofs.lemmas.List.Elements.{recursion_from_All}
use Rattle.known_defs.specs.Known.{no_txn}
use Rattle.txn_core.specs.Graphs.{ArePreds}

pub another_more : (t app : ℕ) (preds : List (List ℕ)) (txns : List Txn) (j : ℕ) (p : List ℕ) (d : Txn) → j < length preds → j < length txns →
    other_app_follows t app (drop j preds) (drop j txns)
    ≡ ((contains (get_or preds j p) t && not ((get_or txns j d).app == app)) || other_app_follows t app (drop (j + 1) preds) (drop (j + 1) txns))
another_more t app preds txns j p d lp lt = rw (drop_more preds j p lp, drop_more txns j d lt)

pub another_none : (t app : ℕ) (preds : List (List ℕ)) (txns : List Txn) (j : ℕ) (p : List ℕ) (d : Txn) → j < length preds → j < length txns →
    (contains (get_or preds j p) t && not ((get_or txns j d).app == app)) ≡ false →
    other_app_follows t app (drop (j + 1) preds) (drop (j + 1) txns) ≡ other_app_follows t app (drop j preds) (drop j txns)
another_none t app preds txns j p d lp lt none =
    sym (another_more t app preds txns j p d lp lt ∙ ap (λ b. b || other_app_follows t app (drop (j + 1) preds) (drop (j + 1) txns)) none)

-- the same application is no other one
pub same_app : (b : Bool) (x y : ℕ) → x ≡ y → (b && not (x == y)) ≡ false
same_app false x y e = refl
same_app true x y e = ap not (eq-eqb x y e)

not_contained : (bound t : ℕ) (ps : List ℕ) → AllByRecursion (λ p. p < bound) ps → bound ≤ t → contains ps t ≡ false
not_contained bound t [] all le = refl
not_contained bound t (p ∷ ps) all le = ap (λ b. b || contains ps t) (ne_eqb t p (λ e. omega (arith, e, all.0, le))) ∙ not_contained bound t ps all.1 le

-- a position up to t does not depend on it
not_before : (preds : List (List ℕ)) (j t : ℕ) → ArePreds preds → j < length preds → j ≤ t → contains (get_or preds j []) t ≡ false
not_before preds j t are lt le = not_contained j t (get_or preds j []) (recursion_from_All (λ p. p < j) (get_or preds j []) (are.earlier j lt)) le

-- so those after it are to be looked at
after_from : (t app : ℕ) (preds : List (List ℕ)) (txns : List Txn) (n : ℕ) → ArePreds preds → length preds ≡ length txns → n ≤ suc t → n ≤ length preds →
    other_app_follows t app (drop n preds) (drop n txns) ≡ other_app_follows t app preds txns
after_from t app preds txns zero are same le within = refl
after_from t app preds txns (suc n) are same le within =
    let e : suc n ≡ n + 1 = omega arith in
    ap (λ k. other_app_follows t app (drop k preds) (drop k txns)) e
    ∙ another_none t app preds txns n [] no_txn (omega (arith, within)) (omega (arith, within, same))
    (ap (λ b. b && not ((get_or txns n no_txn).app == app)) (not_before preds n t are (omega (arith, within)) (omega (arith, le))))
    ∙ after_from t app preds txns n are same (omega (arith, le)) (omega (arith, within))

pub after_it : (t app : ℕ) (preds : List (List ℕ)) (txns : List Txn) → ArePreds preds → length preds ≡ length txns → t < length preds →
    other_app_follows t app (drop (t + 1) preds) (drop (t + 1) txns) ≡ other_app_follows t app preds txns
after_it t app preds txns are same lt =
    let e : t + 1 ≡ suc t = omega arith in
    ap (λ k. other_app_follows t app (drop k preds) (drop k txns)) e ∙ after_from t app preds txns (suc t) are same (omega arith) (omega (arith, lt))
