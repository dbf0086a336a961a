-- What each turn of the loops of `push_agents` keeps.
use Rattle.std.proofs.Common.{◌≡◌, ◌++◌, take}
use Rattle.std.specs.Prelude.{codes}
use Rattle.std.specs.List.{flat_map}
use Rattle.oxii_defs.specs.BlockBytes.{peer_name}
use Rattle.txn_core.specs.MeantTable.{table_of}
use Rattle.report_text.proofs.lines.push_agents.Given as goal

abbrev pub invariant-loop-agent : goal.invariant-loop-agent
invariant-loop-agent l = l.text ≡ l.initial.text ++ flat_map (λ p. codes " " ++ peer_name (table_of l.table) p) (take l.agent-index l.agents)
