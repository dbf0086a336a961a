-- Laws over the definitions.
use Rattle.std.specs.Prelude.{◌≡◌, ◌≤◌, ◌⊎◌, ◌↔◌, ℕ, suc, ◌+◌, List, [], length, map, filter, get_or, Some, slice_get}
use Rattle.std.specs.List.{range_with_len}
use Rattle.std.specs.FinMap as map
use Rattle.std.specs.Ordering.{nat_cmp}
use Rattle.oxii_defs.specs.Syntax.{Stmts, Op}
use Rattle.oxii_defs.specs.State.{State, value_in, IsState}
use Rattle.oxii_defs.specs.WellFormed.{IsWellFormed, Match}
use Rattle.oxii_defs.specs.Meaning.{Ends, Aborts, HasOutcome}
use Rattle.oxii_defs.specs.Outcomes.{outcome}
use Rattle.oxii_defs.specs.Effects.{apply}
use Rattle.oxii_defs.specs.SerialPart.{serial_state, serial_outcomes, serial_part}
use Rattle.oxii_defs.specs.Dependency.{depends, graph_of}
use Rattle.oxii_defs.specs.SerialRuns.{RunsSerially, IsSerialPart}
use Rattle.oxii_defs.specs.Table.{Table}
use Rattle.oxii_defs.specs.Lawful.{IsLawfulTable}
use Rattle.oxii_defs.specs.BlockBytes.{txn_bytes, block_hash}
use Rattle.oxii_defs.specs.Chain.{chain, no_hash}
use Rattle.txn_types.specs.declared.txn.Reason.{Reason}
use Rattle.txn_types.specs.declared.txn.Txn.{Txn}
use Rattle.txn_types.specs.declared.txn.Outcome.{Outcome}
use Rattle.txn_types.specs.declared.txn.Kind.{Kind}
use Rattle.txn_types.specs.declared.block.Block.{Block}
use Rattle.txn_types.specs.declared.block.Body.{Body}
use Rattle.txn_types.specs.Fitting.{Fits}

-- exactly one of the two holds, for exactly one result
pub record IsDecided (body : Stmts) (t : Txn) (s : State) : Type 0 where
  pub one : ((w : map.FinMap nat_cmp ℕ) × Ends body t s w) ⊎ ((r : Reason) × Aborts body t s r)
  pub not_both : (w : map.FinMap nat_cmp ℕ) (r : Reason) → Ends body t s w → Aborts body t s r → ⊥
  pub one_end : (w u : map.FinMap nat_cmp ℕ) → Ends body t s w → Ends body t s u → w ≡ u
  pub one_reason : (r q : Reason) → Aborts body t s r → Aborts body t s q → r ≡ q

abbrev pub CallsAreDecided : Type 0
CallsAreDecided = (body : Stmts) (t : Txn) (s : State) → IsDecided body t s

-- the program that runs a body gives what the relations say, and nothing else
abbrev pub OutcomesAreMeant : Type 0
OutcomesAreMeant = (body : Stmts) (t : Txn) (s : State) (o : Outcome) → HasOutcome body t s o ↔ (o ≡ outcome body t s)

-- the serial run is that of the relations, and no other is
abbrev pub SerialRunsAreMeant : Type 0
SerialRunsAreMeant = (table : Table) (s : State) (txns : List Txn) (outcomes : List Outcome) (u : State) →
    RunsSerially table s txns outcomes u ↔ ((outcomes ≡ serial_outcomes table s txns) × (u ≡ serial_state table s txns))

-- the lines of the serial run of blocks are those of the relations, and no others are
abbrev pub SerialPartsAreMeant : Type 0
SerialPartsAreMeant = (table : Table) (genesis : State) (peer : ℕ) (blocks : List Block) (lines : List ℕ) →
    IsSerialPart table genesis peer blocks lines ↔ (lines ≡ serial_part table genesis peer blocks)

-- a graph has a list for each position: of the positions before it those on which it depends, in order
pub record IsGraph (kind : Kind) (txns : List Txn) (preds : List (List ℕ)) : Type 0 where
  pub one_each : length preds ≡ length txns
  pub pairs : (j : ℕ) (later : Txn) → slice_get txns j ≡ Some later →
      get_or preds j [] ≡ filter (λ i. depends kind (get_or txns i later) later) (range_with_len 0 j)

abbrev pub GraphsAreMeant : Type 0
GraphsAreMeant = (kind : Kind) (txns : List Txn) → IsGraph kind txns (graph_of kind txns)

-- what a block carries
abbrev pub body_in_block : Block → Body
body_in_block b = record { txns = b.txns; config = b.config }

-- the blocks carry these bodies, are numbered from 1, and each has the hash of the one before it
pub record IsChain (table : Table) (bodies : List Body) (blocks : List Block) : Type 0 where
  pub carried : bodies ≡ map body_in_block blocks
  pub numbered : (m : ℕ) (b : Block) → slice_get blocks m ≡ Some b → b.number ≡ m + 1
  pub first : (b : Block) → slice_get blocks 0 ≡ Some b → b.prev ≡ no_hash
  pub linked : (m : ℕ) (a b : Block) → slice_get blocks m ≡ Some a → slice_get blocks (suc m) ≡ Some b → b.prev ≡ block_hash table a

abbrev pub ChainsAreMeant : Type 0
ChainsAreMeant = (table : Table) (bodies : List Body) (blocks : List Block) → IsChain table bodies blocks ↔ (blocks ≡ chain table bodies)

-- an outcome depends on the state at the read set alone
abbrev pub OutcomesAreLocal : Type 0
OutcomesAreLocal = (body : Stmts) (t : Txn) (s u : State) → map (value_in s) t.reads ≡ map (value_in u) t.reads → outcome body t s ≡ outcome body t u

-- the outcome of a well-formed operation fits
abbrev pub OutcomesFit : Type 0
OutcomesFit = (op : Op) (t : Txn) (s : State) → IsWellFormed op → Match op.params t.args → IsState s → Fits t (outcome op.body t s)

-- what fits keeps the state a state
abbrev pub StatesStay : Type 0
StatesStay = (s : State) (t : Txn) (o : Outcome) → IsState s → Fits t o → IsState (apply s t o)

-- how many arguments, and records in each set, a transaction holds at most
pub record IsHeld (t : Txn) : Type 0 where
  pub args : length t.args ≤ 16
  pub reads : length t.reads ≤ 16
  pub writes : length t.writes ≤ 16

-- no transaction has more than 1,669 bytes
abbrev pub TxnsAreShort : Type 0
TxnsAreShort = (table : Table) (t : Txn) → IsLawfulTable table → IsHeld t → length (txn_bytes table t) ≤ 1669
