-- What each turn of the loops of `first_to_reach` keeps.
use Rattle.std.proofs.Common.{◌≡◌, reverse, take, None}
use Rattle.node_defs.specs.Counting.{first_to_reach}
use Rattle.counting_laws.specs.Contents.{contents}
use Rattle.counting_laws.proofs.reach.first_to_reach.Given as goal

-- nothing is reached so far
abbrev pub invariant-loop-i : goal.invariant-loop-i
invariant-loop-i g l =
    first_to_reach g.T.Content.PartialEq.eq l.count (contents g.T.Tally.content (g.T.Tally.counts l.tally) (reverse (take l.i l.entries))) ≡ None
