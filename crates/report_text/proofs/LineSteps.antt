-- Lines, one after another.
use Rattle.std.proofs.Common.{◌≡◌, ◌<◌, ◌≤◌, ℕ, ◌+◌, cond, eqb, List, [], ◌++◌, length, get_or, drop, drop-cons, add-one, refl, sym, ap, ◌∙◌, append_assoc}
use Rattle.std.proofs.Math.ListN.{drop_of_length-le}
use Rattle.oxii_defs.specs.State.{State}
use Rattle.oxii_defs.specs.Table.{Table}
use Rattle.oxii_defs.specs.Lines.{values_count, value_line, value_lines, txn_line, txn_lines}
use Rattle.node_defs.specs.GraphText.{after_line, after_lines}
use Rattle.txn_types.specs.declared.txn.Txn.{Txn}
use Rattle.txn_types.specs.declared.txn.Outcome.{Outcome}
use Rattle.txn_core.specs.States.{state_of}
use Rattle.txn_core.proofs.StateLemmas.{value_of_state}

-- one more line is printed, and the others are left
pub goes_on : (old all total line rest new : List ℕ) → old ++ all ≡ total → all ≡ line ++ rest → new ≡ old ++ line → new ++ rest ≡ total
goes_on old all total line rest new before split printed =
    ap (λ (text : List ℕ). text ++ rest) printed ∙ append_assoc old line rest ∙ ap (λ (text : List ℕ). old ++ text) (sym split) ∙ before

pub txns_next : (table : Table) (n : ℕ) (txns : List Txn) (outcomes : List Outcome) (i : ℕ) (t : Txn) (o : Outcome) → t ≡ get_or txns i t → o ≡ get_or outcomes i o → i < length txns → i < length outcomes →
    txn_lines table n (drop i txns) (drop i outcomes) ≡ txn_line table n t o ++ txn_lines table (n + 1) (drop (i + 1) txns) (drop (i + 1) outcomes)
txns_next table n txns outcomes i t o is is' lt lt' =
    rw (drop-cons txns i t, drop-cons outcomes i o, add-one i, ← is, ← is') refl

pub lines_next : (values : List ℕ) (names : List (List ℕ)) (i : ℕ) (name : List ℕ) → name ≡ get_or names i name → i < length names →
    value_lines (state_of values) i (drop i names) ≡ value_line name (get_or values i 0) ++ value_lines (state_of values) (i + 1) (drop (i + 1) names)
lines_next values names i name is lt = rw (drop-cons names i name, add-one, value_of_state values i, ← is) refl

pub lines_end : (s : State) (names : List (List ℕ)) (i : ℕ) → length names ≤ i → value_lines s i (drop i names) ≡ []
lines_end s names i le = rw (drop_of_length-le names le) refl

pub count_next : (values : List ℕ) (names : List (List ℕ)) (i : ℕ) (d : List ℕ) → i < length names →
    values_count (state_of values) i (drop i names) ≡ cond (eqb (get_or values i 0) 0) (values_count (state_of values) (i + 1) (drop (i + 1) names)) (values_count (state_of values) (i + 1) (drop (i + 1) names) + 1)
count_next values names i d lt = rw (drop-cons names i d, add-one, value_of_state values i) refl

pub count_end : (s : State) (names : List (List ℕ)) (i : ℕ) → length names ≤ i → values_count s i (drop i names) ≡ 0
count_end s names i le = rw (drop_of_length-le names le) refl

pub afters_next : (table : Table) (n : ℕ) (txns : List Txn) (lists : List (List ℕ)) (i : ℕ) (t : Txn) (preds : List ℕ) → t ≡ get_or txns i t → preds ≡ get_or lists i [] → i < length txns → i < length lists →
    after_lines table n (drop i txns) (drop i lists) ≡ after_line table n t preds ++ after_lines table (n + 1) (drop (i + 1) txns) (drop (i + 1) lists)
afters_next table n txns lists i t preds is is' lt lt' =
    rw (drop-cons txns i t, drop-cons lists i [], add-one i, ← is, ← is') refl
