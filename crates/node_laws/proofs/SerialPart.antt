-- The lines of a peer in agreement are those of the serial run of its completed blocks.
use Rattle.std.specs.Prelude.{ℕ, ◌≤◌, ◌≡◌, List, [], ◌∷◌, ◌++◌, length, reverse, take, refl, suc, zero}
use Rattle.std.proofs.Common.{sym, ◌∙◌, ap, arith, append-nil}
use Rattle.std.proofs.lemmas.List.{reverse-append}
use Rattle.std.proofs.Math.Seq.{take-suc}
use Rattle.node_defs.specs.Ledger.{after_outcomes, heard, ledger, ledger_state}
use Rattle.node_defs.specs.Programs.{rules_of, setting_of}
use Rattle.node_defs.specs.Serial.{serial, serial_base, serial_ledger}
use Rattle.node_defs.specs.Blocks.{block_at, no_block}
use Rattle.node_defs.specs.Text.{halted_line, part_of}
use Rattle.node_defs.specs.World.{World, completed_count, log_of}
use Rattle.node_laws.proofs.AgreeWorld.{agreement}
use Rattle.node_laws.proofs.Conflicts.{serial_is}
use Rattle.node_laws.specs.Agreement.{IsWithChain, SerialPart}
use Rattle.oxii_defs.specs.Lines.{Entry, peer_lines}
use Rattle.oxii_defs.specs.SerialPart.{ledger_of, serial_part, state_after, serial_outcomes, serial_state}
use Rattle.oxii_defs.specs.Outcomes.{outcome_in}
use Rattle.oxii_defs.specs.Effects.{apply}
use Rattle.oxii_defs.specs.State.{State}
use Rattle.oxii_defs.specs.Table.{Table}
use Rattle.txn_types.specs.declared.block.Block.{Block}
use Rattle.txn_types.specs.declared.block.Body.{Body}
use Rattle.txn_types.specs.declared.message.Node.{Node}
use Rattle.txn_types.specs.declared.stream.Item.{Item}
use Rattle.txn_types.specs.declared.txn.Txn.{Txn}

-- the state after the serial outcomes is that of the serial run
after_serial : (table : Table) (genesis s : State) (ts : List Txn) → after_outcomes s ts (serial (rules_of table genesis) s ts) ≡ serial_state table s ts
after_serial table genesis s [] = refl
after_serial table genesis s (t ∷ ts) = after_serial table genesis (apply s t (outcome_in table s t)) ts

state_push : (table : Table) (s : State) (bs : List Block) (b : Block) → state_after table s (bs ++ b ∷ []) ≡ serial_state table (state_after table s bs) b.txns
state_push table s [] b = refl
state_push table s (a ∷ bs) b = state_push table (serial_state table s a.txns) bs b

ledger_push : (table : Table) (s : State) (bs : List Block) (b : Block) → ledger_of table s (bs ++ b ∷ []) ≡ ledger_of table s bs ++ record { block = b; outcomes = serial_outcomes table (state_after table s bs) b.txns } ∷ []
ledger_push table s [] b = refl
ledger_push table s (a ∷ bs) b = ap (λ es. record { block = a; outcomes = serial_outcomes table s a.txns } ∷ es) (ledger_push table (serial_state table s a.txns) bs b)

module _ (table : Table) (genesis : State) (chain : List Block) where
  -- the state before block c + 1
  state_is : (c : ℕ) → c ≤ length chain → serial_base (rules_of table genesis) chain c ≡ state_after table genesis (take c chain)
  state_is zero h = refl
  state_is (suc c) h =
      let r = rules_of table genesis in
      let before = state_is c (omega arith) in
      after_serial table genesis (serial_base r chain c) (block_at chain c).txns
      ∙ ap (λ s. serial_state table s (block_at chain c).txns) before
      ∙ sym (ap (state_after table genesis) (take-suc chain c no_block (omega arith)) ∙ state_push table genesis (take c chain) (block_at chain c))

  ledger_is : (c : ℕ) → c ≤ length chain → reverse (serial_ledger (rules_of table genesis) chain c) ≡ ledger_of table genesis (take c chain)
  ledger_is zero h = refl
  ledger_is (suc c) h =
      let r = rules_of table genesis in
      let b = block_at chain c in
      let e : Entry = record { block = b; outcomes = serial r (serial_base r chain c) b.txns } in
      let last : serial r (serial_base r chain c) b.txns ≡ serial_outcomes table (state_after table genesis (take c chain)) b.txns =
      ap (λ s. serial r s b.txns) (state_is c (omega arith)) ∙ serial_is table genesis (state_after table genesis (take c chain)) b.txns in
      reverse-append (e ∷ []) (serial_ledger r chain c)
      ∙ (ap (λ es. es ++ e ∷ []) (ledger_is c (omega arith))
      ∙ (ap (λ os. ledger_of table genesis (take c chain) ++ record { block = b; outcomes = os } ∷ []) last
      ∙ sym (ap (ledger_of table genesis) (take-suc chain c no_block (omega arith)) ∙ ledger_push table genesis (take c chain) b)))

two_parts : (table : Table) (p : ℕ) (es fs : List Entry) (s u : State) → es ≡ fs → s ≡ u → peer_lines table p es s ++ [] ≡ peer_lines table p fs u
two_parts table p es fs s u e f = append-nil (peer_lines table p es s) ∙ (ap (λ x. peer_lines table p x s) e ∙ ap (peer_lines table p fs) f)

-- of a peer that is with the chain
pub part_with_chain : (table : Table) (genesis : State) (items : List Item) (bodies : List Body) (faulty : List Node) (w : World) (p : ℕ) →
    let s = setting_of table genesis items bodies faulty in
    IsWithChain s p (heard s.rules p (log_of w p)) →
    (completed_count s w p ≤ length s.chain)
    × (part_of s p (log_of w p) ≡ serial_part table genesis p (take (completed_count s w p) s.chain))
part_with_chain table genesis items bodies faulty w p one =
    let s = setting_of table genesis items bodies faulty in
    let L = heard s.rules p (log_of w p) in
    let c = length (ledger s.rules p L) in (
      one.few,
      ap (λ h. peer_lines table p (reverse (ledger s.rules p L)) (ledger_state s.rules (ledger s.rules p L)) ++ halted_line table h) one.runs
          ∙ two_parts table p (reverse (ledger s.rules p L)) (ledger_of table genesis (take c s.chain)) (ledger_state s.rules (ledger s.rules p L)) (state_after table genesis (take c s.chain))
          (ap reverse one.blocks ∙ ledger_is table genesis s.chain c one.few)
          (one.state ∙ state_is table genesis s.chain c one.few),
    )

pub serial_part_law : SerialPart
serial_part_law table genesis items bodies faulty events w p tame said world =
    part_with_chain table genesis items bodies faulty w p ((agreement table genesis items bodies faulty events w tame said world).peers p)
