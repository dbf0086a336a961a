-- What each turn of the loops of `heard` keeps.
use Rattle.std.proofs.Common.{◌≡◌}
use Rattle.peer_tables.proofs.answers.heard.Given as goal

abbrev pub invariant-loop-row : goal.invariant-loop-row
invariant-loop-row g l = l.peer.table ≡ l.setting.table
