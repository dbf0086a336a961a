-- The loops that fill the value words.
use Rattle.std.proofs.Common.{◌≡◌, ℕ, ◌+◌, ◌*◌, ◌<◌, ◌≤◌, List, [], ◌∷◌, ◌++◌, length, take, get_or, set, sym, ap, ◌∙◌, arith, get_or-set_same, get_or-set_other, Option, None}
use mathlib.Core.Logic.{dite}
use native.Mathlib.Decide.{ℕ_discrete}
use Rattle.std.proofs.lemmas.List.{take_more, take_all, get_or_default, length-take-le}
use Rattle.txn_types.specs.declared.txn.Outcome.{Outcome}
use Rattle.txn_types.specs.declared.txn.Txn.{Txn}
use Rattle.oxii_defs.specs.State.{State}
use Rattle.known_defs.specs.Known.{txn_at, no_txn, after_known}
use Rattle.board_defs.specs.Closure.{Plan}
use Rattle.board_core.specs.Words.{value}
use Rattle.board_work.specs.Scripts.{apply_known}
use Rattle.script_laws.proofs.States.{after_known-push}

pub txn_is : (ts : List Txn) (i : ℕ) (x : Txn) → i < length ts → x ≡ get_or ts i x → x ≡ txn_at ts i
txn_is ts i x l e = e ∙ get_or_default ts i x no_txn l

-- the transaction at a place
pub txn_there : (txns : List Txn) (plan : Plan) (t : ℕ) (x : Txn) → txns ≡ plan.txns → t < length plan.txns → x ≡ get_or txns t x → x ≡ txn_at plan.txns t
txn_there txns plan t x e l is = is ∙ (ap (λ ts. get_or ts t x) e ∙ get_or_default plan.txns t x no_txn l)

-- the row at a place
pub row_at : (rows : List (List ℕ)) (s : ℕ) (r row : List ℕ) → row ≡ r → r ≡ get_or rows s r → s < length rows → row ≡ get_or rows s []
row_at rows s r row e is l = e ∙ (is ∙ get_or_default rows s r [] l)

pub known_is_at : (os : List (Option Outcome)) (i : ℕ) (k : Option Outcome) → i < length os → k ≡ get_or os i k → k ≡ get_or os i None
known_is_at os i k l e = e ∙ get_or_default os i k None l

-- one position more
pub known_step : (s : State) (ts : List Txn) (os : List (Option Outcome)) (i : ℕ) (x : Txn) (k : Option Outcome) → i < length ts → i < length os → x ≡ get_or ts i x → k ≡ get_or os i k →
    after_known s ts (take (i + 1) os) ≡ apply_known (after_known s ts (take i os)) x k
known_step s ts os i x k lt lo ex ek =
    let len = length-take-le i os (omega arith) in
    ap (after_known s ts) (take_more os i k lo ∙ ap (λ y. take i os ++ y ∷ []) (sym ek))
    ∙ (after_known-push s ts (take i os) k (omega arith)
    ∙ (ap (λ n. apply_known (after_known s ts (take i os)) (txn_at ts n) k) len ∙ ap (λ y. apply_known (after_known s ts (take i os)) y k) (sym (txn_is ts i x lt ex))))

pub known_all : (s : State) (ts : List Txn) (os : List (Option Outcome)) (n : ℕ) → length os ≤ n → after_known s ts (take n os) ≡ after_known s ts os
known_all s ts os n l = ap (after_known s ts) (take_all n os l)

-- one word more
pub value_step : (ws : List ℕ) (vs : List ℕ) (i x : ℕ) → 2 * i + 2 < length ws → x ≡ get_or vs i 0 → ((r : ℕ) → r < i → value ws r ≡ get_or vs r 0) → (r : ℕ) → r < i + 1 → value (set ws (2 * i + 2) x) r ≡ get_or vs r 0
value_step ws vs i x l e old r lr = dite (ℕ_discrete r i)
    (λ s. ap (λ k. get_or (set ws (2 * i + 2) x) (2 * k + 2) 0) s ∙ (get_or-set_same ws (2 * i + 2) x 0 l ∙ (e ∙ ap (λ k. get_or vs k 0) (sym s))))
    (λ n. get_or-set_other ws (2 * i + 2) (2 * r + 2) x 0 (λ s. n (omega arith)) ∙ old r (omega arith))
