-- Conflict order: a plan's closure gives the outcomes of the serial run, for both kinds of graph.
use Rattle.std.specs.Prelude.{ℕ, ◌<◌, ◌≤◌, Bool, true, false, List, [], ◌∷◌, map, length, get_or, take, Option, Some, None, ◌≡◌, refl, suc, zero, slice_get}
use Rattle.std.proofs.Common.{sym, ◌∙◌, ap, arith, subst}
use Rattle.std.proofs.lemmas.Bool.{and_parts}
use Rattle.std.proofs.lemmas.Option.{none-some, same_Some}
use Rattle.std.proofs.lemmas.List.{map_push, take_all}
use Rattle.std.proofs.Math.Seq.{take-suc}
use Rattle.board_defs.specs.Closure.{Plan, can_run, closure, closure_upto, comes_to, is_own, known_at}
use Rattle.known_defs.specs.Known.{knows_all, no_outcome, txn_at}
use Rattle.node_defs.specs.Rules.{Rules}
use Rattle.node_defs.specs.Programs.{rules_of}
use Rattle.node_defs.specs.Serial.{serial}
use Rattle.node_laws.proofs.Order.{length_serial, same_outcome_through, serial_at, within_push}
use Rattle.node_laws.proofs.Same.{Within, rules_local}
use Rattle.node_laws.specs.ConflictOrder.{ConflictOrder, KnowsRightly}
use Rattle.oxii_defs.specs.Outcomes.{outcome_in}
use Rattle.oxii_defs.specs.Effects.{apply}
use Rattle.oxii_defs.specs.SerialPart.{serial_outcomes}
use Rattle.oxii_defs.specs.State.{State}
use Rattle.oxii_defs.specs.Table.{Table}
use Rattle.txn_types.specs.declared.txn.Outcome.{Outcome}
use Rattle.txn_types.specs.declared.txn.Txn.{Txn}

pub serial_is : (table : Table) (genesis s : State) (ts : List Txn) → serial (rules_of table genesis) s ts ≡ serial_outcomes table s ts
serial_is table genesis s [] = refl
serial_is table genesis s (t ∷ ts) = ap (λ os. outcome_in table s t ∷ os) (serial_is table genesis (apply s t (outcome_in table s t)) ts)

at_place : (os : List Outcome) (t : ℕ) (o d : Outcome) → slice_get os t ≡ Some o → get_or os t d ≡ o
at_place [] t o d e = absurd (none-some o e)
at_place (x ∷ os) zero o d e = same_Some x o e
at_place (x ∷ os) (suc t) o d e = at_place os t o d e

from_map : (xs : List (Option Outcome)) (os : List Outcome) (t : ℕ) (o : Outcome) → Within xs (map Some os) → get_or xs t None ≡ Some o → slice_get os t ≡ Some o
from_map [] os t o w h = absurd (none-some o h)
from_map (Some p ∷ xs) [] t o w h = absurd w
from_map (None ∷ xs) [] t o w h = absurd w
from_map (Some p ∷ xs) (x ∷ os) zero o w h = w.0 ∙ h
from_map (None ∷ xs) (x ∷ os) zero o w h = absurd (none-some o h)
from_map (Some p ∷ xs) (x ∷ os) (suc t) o w h = from_map xs os t o w.1 h
from_map (None ∷ xs) (x ∷ os) (suc t) o w h = from_map xs os t o w h

module _ (plan : Plan) (right : KnowsRightly plan) where
  rules : Rules
  rules = rules_of plan.table plan.base

  os : List Outcome
  os = serial rules plan.base plan.txns

  length_os : length os ≡ length plan.txns
  unfolding os rules
  length_os = length_serial (rules_of plan.table plan.base) plan.base plan.txns

  known_right : (t : ℕ) (o : Outcome) → t < length plan.txns → known_at plan t ≡ Some o → get_or os t no_outcome ≡ o
  unfolding os rules
  known_right t o h k = at_place (serial (rules_of plan.table plan.base) plan.base plan.txns) t o no_outcome (subst (λ xs. slice_get xs t ≡ Some o) (sym (serial_is plan.table plan.base plan.base plan.txns)) (right t o h k))

  here : (t : ℕ) → t < length plan.txns → (k : Option Outcome) → known_at plan t ≡ k → (b : Bool) → can_run plan t (closure_upto plan t) ≡ b → Within (closure_upto plan t) (map Some (take t os)) → Within (comes_to plan t k (closure_upto plan t) ∷ []) (Some (get_or os t no_outcome) ∷ [])
  unfolding os rules
  here t h (Some o) e b f w = (ap Some (known_right t o h e), tt)
  here t h None e false f w = rw f tt
  here t h None e true f w =
      let ready = (and_parts (is_own plan t) (knows_all plan.table.kind (txn_at plan.txns t) plan.txns (closure_upto plan t)) f).1 in
      let r = rules_of plan.table plan.base in
      rw f (ap Some (serial_at r plan.base plan.txns t no_outcome h ∙ sym (same_outcome_through r (rules_local plan.table plan.base) plan.base (txn_at plan.txns t) plan.txns (closure_upto plan t) (map Some (take t (serial r plan.base plan.txns))) ready w)), tt)

  upto : (t : ℕ) → t ≤ length plan.txns → Within (closure_upto plan t) (map Some (take t os))
  upto zero h = tt
  upto (suc t) h =
      let earlier = upto t (omega arith) in
      let k : t < length os = omega (arith, length_os) in
      rw (take-suc os t no_outcome k) (rw (map_push Some (take t os) (get_or os t no_outcome))
      (within_push (closure_upto plan t) (map Some (take t os)) _ _ earlier (here t (omega arith) (known_at plan t) refl (can_run plan t (closure_upto plan t)) refl earlier)))

  pub in_order : (t : ℕ) (o : Outcome) → get_or (closure plan) t None ≡ Some o → slice_get (serial_outcomes plan.table plan.base plan.txns) t ≡ Some o
  unfolding os rules
  in_order t o h =
      let whole : take (length plan.txns) os ≡ os = take_all (length plan.txns) os (omega (arith, length_os)) in
      let w = subst (λ xs. Within (closure plan) (map Some xs)) whole (upto (length plan.txns) (omega arith)) in
      subst (λ xs. slice_get xs t ≡ Some o) (serial_is plan.table plan.base plan.base plan.txns) (from_map (closure plan) os t o w h)

pub conflict_order : ConflictOrder
conflict_order plan right t o h = in_order plan right t o h
