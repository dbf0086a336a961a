-- One block, while it is worked on for one message.
use Rattle.std.specs.Prelude.{ℕ, ◌≡◌, ◌<◌, not, Bool, List, [], length, map, get_or, take, Option, Some, None}
use Rattle.txn_types.specs.declared.txn.Outcome.{Outcome}
use Rattle.oxii_defs.specs.Lawful.{IsLawfulTable, IsLawfulBlock}
use Rattle.board_defs.specs.Closure.{Plan, is_own}
use Rattle.board_defs.specs.Trace.{IsLawfulTrace}
use Rattle.txn_core.specs.MeantTable.{table_of}
use Rattle.txn_core.specs.States.{state_of}
use Rattle.txn_core.specs.Graphs.{IsGraphOf}
use Rattle.board_work.specs.declared.plan.Span.{Span}
use Rattle.board_work.specs.Spans.{span_of}
use Rattle.steal_pool.specs.Fitting.{AllFitAt}
use Rattle.peer_parts.specs.declared.rounds.Task.{Task}
use Rattle.peer_parts.specs.Found.{given_by, HasGiven}
use Rattle.peer_parts.specs.Ready.{ran_between}

-- the plan of the block, with nothing known
abbrev pub frame_of : Task → Plan
frame_of k = record { table = table_of k.table.now; txns = k.block.now.txns; base = state_of k.base.now; known = []; own = k.own.now }

-- the plan in which this is known, and these positions are to be run
abbrev pub with_own : Task → List (Option Outcome) → List Bool → Plan
with_own k known own = record { table = table_of k.table.now; txns = k.block.now.txns; base = state_of k.base.now; known = known; own = own }

-- a lawful block with its graph, and for each position whether it is this peer's and what is agreed on it, which fits
pub record IsTask (k : Task) : Type 0 where
  pub table : IsLawfulTable (table_of k.table.now)
  pub block : IsLawfulBlock (table_of k.table.now) k.block.now
  pub graph : IsGraphOf k.block.now.txns k.graph.now
  pub kind : k.graph.now.kind ≡ k.table.now.kind
  pub own : length k.own.now ≡ length k.block.now.txns
  pub agreed : length k.agreed.now ≡ length k.block.now.txns
  pub fits : AllFitAt k.block.now.txns k.agreed.now
  pub values : length k.base.now ≡ length k.table.now.records

-- what is given to others' positions is known
abbrev pub HasOthers : Task → List (Option Outcome) → Type 0
HasOthers k known = HasGiven (λ t. not (is_own (frame_of k) t)) (frame_of k) k.agreed.now known (length k.block.now.txns)

-- what is given is known
abbrev pub HasAllGiven : Task → List (Option Outcome) → Type 0
HasAllGiven k known = (t : ℕ) (o : Outcome) → t < length k.block.now.txns → given_by (frame_of k) (get_or k.agreed.now t None) t (take t known) ≡ Some o → get_or known t None ≡ Some o

-- the spans are a lawful trace of this peer's positions that are known now and weren't before
abbrev pub IsTraceOf : Task → ℕ → List (Option Outcome) → List (Option Outcome) → List Span → Type 0
IsTraceOf k workers before now spans =
    IsLawfulTrace k.table.now.kind k.block.now.txns workers (ran_between k.own.now before now (length k.block.now.txns)) (map span_of spans)
