-- What each turn of the loops of `send` keeps.
use Rattle.std.proofs.Common.{◌≡◌, ◌++◌, length, map, reverse}
use Rattle.node_defs.specs.World.{said_by}
use Rattle.schedule_run.proofs.giving.send.Given as goal

abbrev pub invariant-loop-commit : goal.invariant-loop-commit
invariant-loop-commit l = l.pool ++ map (said_by l.from) (reverse l.rest) ≡ l.fn.pool ++ map (said_by l.from) l.fn.commits

abbrev pub decreases-loop-commit : goal.decreases-loop-commit
decreases-loop-commit l = length l.rest
