-- One transaction, with all that it depends on known, comes to the same outcome whatever more is known.
use Rattle.std.specs.Prelude.{ℕ, ◌<◌, true, List, [], ◌∷◌, ◌++◌, map, length, get_or, take, Option, Some, None, ◌≡◌, refl, suc, zero}
use Rattle.std.proofs.Common.{ap, arith}
use Rattle.known_defs.specs.Known.{after_known, knows_all, txn_at}
use Rattle.node_defs.specs.Rules.{IsLocal, Rules}
use Rattle.node_defs.specs.Serial.{serial}
use Rattle.node_laws.proofs.Same.{Within, covers, same_after}
use Rattle.oxii_defs.specs.Effects.{apply}
use Rattle.oxii_defs.specs.State.{State}
use Rattle.txn_types.specs.declared.txn.Outcome.{Outcome}
use Rattle.txn_types.specs.declared.txn.Txn.{Txn}

pub same_outcome_through : (rules : Rules) → IsLocal rules → (s : State) (t : Txn) (ts : List Txn) (xs ys : List (Option Outcome)) → knows_all rules.table.kind t ts xs ≡ true → Within xs ys → rules.outcome (after_known s ts xs) t ≡ rules.outcome (after_known s ts ys) t
same_outcome_through rules l s t ts xs ys k w =
    l (after_known s ts xs) (after_known s ts ys) t (λ r reads. same_after r ts xs ys s s (covers rules.table.kind t r ts xs ys reads k w) refl)

-- the outcome at a place of the serial run, from those before it
pub serial_at : (rules : Rules) (s : State) (ts : List Txn) (t : ℕ) (d : Outcome) → t < length ts → get_or (serial rules s ts) t d ≡ rules.outcome (after_known s ts (map Some (take t (serial rules s ts)))) (txn_at ts t)
serial_at rules s [] t d h = absurd (omega arith)
serial_at rules s (T ∷ ts) zero d h = refl
serial_at rules s (T ∷ ts) (suc t) d h = serial_at rules (apply s T (rules.outcome s T)) ts t d (omega arith)

pub length_serial : (rules : Rules) (s : State) (ts : List Txn) → length (serial rules s ts) ≡ length ts
length_serial rules s [] = refl
length_serial rules s (t ∷ ts) = ap suc (length_serial rules (apply s t (rules.outcome s t)) ts)

pub within_push : (xs ys : List (Option Outcome)) (x y : Option Outcome) → Within xs ys → Within (x ∷ []) (y ∷ []) → Within (xs ++ x ∷ []) (ys ++ y ∷ [])
within_push [] [] x y w h = h
within_push [] (b ∷ ys) x y w h = absurd w
within_push (Some o ∷ xs) [] x y w h = absurd w
within_push (None ∷ xs) [] x y w h = absurd w
within_push (Some o ∷ xs) (b ∷ ys) x y w h = (w.0, within_push xs ys x y w.1 h)
within_push (None ∷ xs) (b ∷ ys) x y w h = within_push xs ys x y w h
