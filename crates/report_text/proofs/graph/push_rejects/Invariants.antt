-- What each turn of the loops of `push_rejects` keeps.
use Rattle.std.proofs.Common.{◌≡◌, ◌++◌, take}
use Rattle.std.specs.List.{flat_map}
use Rattle.node_defs.specs.Text.{rejected_line}
use Rattle.report_text.proofs.graph.push_rejects.Given as goal

abbrev pub invariant-loop-rejected : goal.invariant-loop-rejected
invariant-loop-rejected l = l.text ≡ l.initial.text ++ flat_map rejected_line (take l.rejected-index l.rejects)
