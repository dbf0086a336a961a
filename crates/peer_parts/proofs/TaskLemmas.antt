-- The plan of a task's round is lawful.
use Rattle.std.specs.Prelude.{◌≡◌, List, length, Option}
use Rattle.txn_types.specs.Values.{AreValues}
use Rattle.txn_types.specs.declared.txn.Outcome.{Outcome}
use Rattle.board_defs.specs.Closure.{IsKnownClosed, IsLawfulPlan}
use Rattle.txn_core.specs.MeantTable.{table_of}
use Rattle.txn_core.proofs.StateLemmas.{state_of-values}
use Rattle.node_laws.proofs.LawfulBlockLemmas.{block_few, block_txns}
use Rattle.steal_pool.specs.Fitting.{AllFitAt}
use Rattle.peer_parts.specs.declared.rounds.Task.{Task}
use Rattle.peer_parts.specs.Ready.{round_plan}
use Rattle.peer_parts.specs.Tasks.{IsTask, frame_of}
use Rattle.peer_parts.proofs.RoundLemmas.{lawful_round}

-- the plan of a round is lawful
pub lawful_task : (k : Task) (known : List (Option Outcome)) → IsTask k → AreValues k.base.now → length known ≡ length k.block.now.txns → IsKnownClosed k.table.now.kind k.block.now.txns known → AllFitAt k.block.now.txns known → IsLawfulPlan (round_plan (frame_of k) known)
lawful_task k known t values long closed fit =
    lawful_round (frame_of k) known t.table (block_few (table_of k.table.now) k.block.now t.block) (block_txns (table_of k.table.now) k.block.now t.block) (state_of-values k.base.now values) long t.own closed fit
