-- The outcomes of the serial run of lawful blocks fit their transactions.
use Rattle.std.specs.Prelude.{ℕ, ◌<◌, ◌≤◌, ◌≡◌, true, List, [], ◌∷◌, length, get_or, Option, suc, zero}
use Rattle.std.specs.List.{AllByRecursion}
use Rattle.std.proofs.Common.{sym, subst, arith}
use Rattle.std.proofs.lemmas.List.Elements.{recursion_from_All}
use Rattle.known_defs.specs.Known.{no_outcome, txn_at}
use Rattle.node_defs.specs.Blocks.{block_at}
use Rattle.node_defs.specs.Ledger.{after_outcomes}
use Rattle.node_defs.specs.Programs.{rules_of}
use Rattle.node_defs.specs.Serial.{serial, serial_base, serial_outcomes_at}
use Rattle.node_laws.proofs.LawfulBlockLemmas.{block_txns}
use Rattle.oxii_defs.specs.BlockBytes.{block_hash}
use Rattle.oxii_defs.specs.Chain.{chain_from}
use Rattle.oxii_defs.specs.Effects.{apply}
use Rattle.oxii_defs.specs.Lawful.{IsLawfulBlock, IsLawfulBody, IsLawfulTable, IsLawfulTxn}
use Rattle.oxii_defs.specs.Outcomes.{outcome, outcome_in}
use Rattle.oxii_defs.specs.State.{IsState, State}
use Rattle.oxii_defs.specs.Syntax.{Op}
use Rattle.oxii_defs.specs.Table.{Table, body_of}
use Rattle.oxii_defs.proofs.Lawful.{op_well_formed}
use Rattle.oxii_defs.proofs.Small.{outcomes_fit, states_stay}
use Rattle.txn_types.specs.Fitting.{Fits, is_fit}
use Rattle.txn_types.specs.declared.block.Block.{Block}
use Rattle.txn_types.specs.declared.block.Body.{Body}
use Rattle.txn_types.specs.declared.txn.Txn.{Txn}

-- the outcome of a lawful transaction fits it
txn_fits : (table : Table) → IsLawfulTable table → (s : State) → IsState s → (t : Txn) → IsLawfulTxn table t → Fits t (outcome_in table s t)
txn_fits table lawful s is t h =
    subst (λ (o : Option Op). Fits t (outcome (body_of o) t s)) (sym h.named)
    (outcomes_fit h.op t s (op_well_formed table t h.op lawful h.named) h.matched is)

-- ONE BLOCK

module _ (table : Table) (lawful : IsLawfulTable table) (genesis : State) where
  block_fits : (s : State) → IsState s → (ts : List Txn) → AllByRecursion (IsLawfulTxn table) ts → (t : ℕ) → t < length ts → is_fit (txn_at ts t) (get_or (serial (rules_of table genesis) s ts) t no_outcome) ≡ true
  block_fits s is [] a t k = absurd (omega arith)
  block_fits s is (x ∷ ts) a zero k = txn_fits table lawful s is x a.0
  block_fits s is (x ∷ ts) a (suc t) k = block_fits (apply s x (outcome_in table s x)) (states_stay s x (outcome_in table s x) is (txn_fits table lawful s is x a.0)) ts a.1 t (omega arith)

  block_state : (s : State) → IsState s → (ts : List Txn) → AllByRecursion (IsLawfulTxn table) ts → IsState (after_outcomes s ts (serial (rules_of table genesis) s ts))
  block_state s is [] a = is
  block_state s is (x ∷ ts) a = block_state (apply s x (outcome_in table s x)) (states_stay s x (outcome_in table s x) is (txn_fits table lawful s is x a.0)) ts a.1

  -- ALL BLOCKS

  module _ (state : IsState genesis) (chain : List Block) (blocks : (m : ℕ) → m < length chain → IsLawfulBlock table (block_at chain m)) where
    txns_of : (m : ℕ) → m < length chain → AllByRecursion (IsLawfulTxn table) (block_at chain m).txns
    txns_of m h = recursion_from_All (IsLawfulTxn table) (block_at chain m).txns (block_txns table (block_at chain m) (blocks m h))

    base_state : (m : ℕ) → m ≤ length chain → IsState (serial_base (rules_of table genesis) chain m)
    base_state zero h = state
    base_state (suc m) h = block_state (serial_base (rules_of table genesis) chain m) (base_state m (omega (arith, h))) (block_at chain m).txns (txns_of m (omega (arith, h)))

    pub all_fit : (m t : ℕ) → m < length chain → t < length (block_at chain m).txns → is_fit (txn_at (block_at chain m).txns t) (get_or (serial_outcomes_at (rules_of table genesis) chain m) t no_outcome) ≡ true
    all_fit m t h k = block_fits (serial_base (rules_of table genesis) chain m) (base_state m (omega (arith, h))) (block_at chain m).txns (txns_of m h) t k

-- what a chain of lawful bodies has is lawful
pub lawful_chain : (table : Table) (n : ℕ) (prev : List ℕ) (bodies : List Body) → AllByRecursion (λ (b : Body). IsLawfulBody table b.txns b.config) bodies → (m : ℕ) → m < length (chain_from table n prev bodies) → IsLawfulBlock table (block_at (chain_from table n prev bodies) m)
lawful_chain table n prev [] a m h = absurd (omega arith)
lawful_chain table n prev (b ∷ bodies) a zero h = a.0
lawful_chain table n prev (b ∷ bodies) a (suc m) h = lawful_chain table (suc n) (block_hash table (record { number = n; prev = prev; txns = b.txns; config = b.config })) bodies a.1 m (omega arith)
